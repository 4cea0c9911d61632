use Rattle.std.proofs.Common.{◌≡◌, ◌+◌, ◌*◌, ◌≤◌, ◌++◌, decimal}
use Rattle.arrayvec.specs.ArrayString.{array_string_len}
use Rattle.listings.specs.Listing.{entries_text}
use Rattle.listings.proofs.texts.set_slot.Given as goal

abbrev pub invariant-loop-entry : goal.invariant-loop-entry
invariant-loop-entry l =
    (l.line.bytes ≡ decimal l.slot.ticks ++ entries_text l.slot.row l.entry-index)
    × (array_string_len l.line ≤ 10 + 4 * l.entry-index)
