-- What the questions together come to.
use Rattle.std.specs.Prelude.{◌≡◌, ℕ, List, Ok}
use Rattle.builder.specs.declared.slots.Slot.{Slot}
use Rattle.templates.specs.Calls.{adopt_answer}
use Rattle.templates.specs.Layouts.{laid, Sound}

-- what is adopted is sound, and what is sound is adopted
abbrev pub AdoptsTheSound : Type 0
AdoptsTheSound = (n m l : ℕ) (slots : List Slot) →
    (adopt_answer n m l slots ≡ Ok tt → Sound (laid n m l slots)) × (Sound (laid n m l slots) → adopt_answer n m l slots ≡ Ok tt)
