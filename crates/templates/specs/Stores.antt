-- What a store holds.
use Rattle.std.specs.Prelude.{List, take}
use Rattle.builder.specs.declared.slots.Slot.{Slot}
use Rattle.templates.specs.declared.store.Store.{Store}

abbrev pub held : Store → List Slot
held s = take s.count s.room.slots
