-- What adopting answers, and the layout that it leaves: the first question that fails refuses it, and a refusal changes nothing.
use Rattle.std.specs.Prelude.{ℕ, List, [], ◌∷◌, length, Ok, Err, Result, ◌==◌, nat_le}
use Rattle.builder.specs.declared.slots.Slot.{Slot}
use Rattle.sheets.specs.Questions.{most, from_to, asked}
use Rattle.templates.specs.Layouts.{Layout, laid, total}
use Rattle.templates.specs.Rows.{row_fits}
use Rattle.templates.specs.declared.refusals.TemplateRefusal.{TemplateRefusal}
use Rattle.templates.specs.declared.refusals.TemplateRefusal.TheVariants.{TasksOutOfRange, ProcessorsOutOfRange, FrameOutOfRange, TooManySlots, SlotTicksOutOfRange, SlotPairsWrong, SlotsDoNotAddUp}

abbrev pub Answer : Type 0
Answer = Result (Unit {0}) TemplateRefusal

abbrev pub slot_answer : ℕ → ℕ → ℕ → Slot → Answer → Answer
slot_answer n m l s next =
    asked (from_to 1 l s.ticks) SlotTicksOutOfRange
    (asked (row_fits n m s.row) SlotPairsWrong next)

-- slot by slot, in order
abbrev pub each_answer : ℕ → ℕ → ℕ → List Slot → Answer → Answer
each_answer n m l [] next = next
each_answer n m l (s ∷ slots) next = slot_answer n m l s (each_answer n m l slots next)

-- at the end
abbrev pub sum_answer : ℕ → ℕ → Answer
sum_answer l sum = asked (sum == l) SlotsDoNotAddUp (Ok tt)

abbrev pub slots_answer : ℕ → ℕ → ℕ → List Slot → Answer
slots_answer n m l slots = each_answer n m l slots (sum_answer l (total slots))

abbrev pub adopt_answer : ℕ → ℕ → ℕ → List Slot → Answer
adopt_answer n m l slots =
    asked (from_to 1 64 n) TasksOutOfRange
    (asked (from_to 1 16 m) ProcessorsOutOfRange
    (asked (from_to 1 most l) FrameOutOfRange
    (asked (nat_le (length slots) 1104) TooManySlots (slots_answer n m l slots))))

-- the new layout where the answer is Ok, else the old one
abbrev pub settled : Answer → Layout → Layout → Layout
settled (Ok _) new old = new
settled (Err _) new old = old

abbrev pub after_adopt : Layout → ℕ → ℕ → ℕ → List Slot → Layout
after_adopt old n m l slots = settled (adopt_answer n m l slots) (laid n m l slots) old
