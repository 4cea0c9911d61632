-- What each call on a sheet answers, and the load that it leaves: the first question that fails refuses it, and a refusal changes nothing.
use Rattle.std.specs.Prelude.{ℕ, cond, ◌&&◌, Ok, Result, nat_le, nat_lt}
use Rattle.sheets.specs.Cells.{nothing, written, cleared}
use Rattle.sheets.specs.Loads.{Load}
pub use Rattle.sheets.specs.Questions.{most, from_to, asked}
use Rattle.sheets.specs.declared.refusals.SheetRefusal.{SheetRefusal}
use Rattle.sheets.specs.declared.refusals.SheetRefusal.TheVariants.{TasksOutOfRange, ProcessorsOutOfRange, FrameOutOfRange, TaskOutOfRange, ProcessorOutOfRange, TicksOutOfRange}

abbrev pub unloaded : ℕ → ℕ → ℕ → Load
unloaded n m l = record { tasks = n; processors = m; frame = l; ticks = nothing }

abbrev pub blank : Load
blank = unloaded 1 1 1

abbrev pub with_ticks : Load → (ℕ → ℕ → ℕ) → Load
with_ticks s f = record { tasks = s.tasks; processors = s.processors; frame = s.frame; ticks = f }

abbrev pub with_frame : Load → ℕ → Load
with_frame s l = record { tasks = s.tasks; processors = s.processors; frame = l; ticks = s.ticks }

abbrev pub Answer : Type 0
Answer = Result (Unit {0}) SheetRefusal

abbrev pub open_answer : ℕ → ℕ → ℕ → Answer
open_answer n m l =
    asked (from_to 1 64 n) TasksOutOfRange
    (asked (from_to 1 16 m) ProcessorsOutOfRange
    (asked (from_to 1 most l) FrameOutOfRange (Ok tt)))

abbrev pub after_open : Load → ℕ → ℕ → ℕ → Load
after_open s n m l = cond (from_to 1 64 n && from_to 1 16 m && from_to 1 most l) (unloaded n m l) s

abbrev pub set_answer : Load → ℕ → ℕ → ℕ → Answer
set_answer s t p x =
    asked (nat_lt t s.tasks) TaskOutOfRange
    (asked (nat_lt p s.processors) ProcessorOutOfRange
    (asked (nat_le x most) TicksOutOfRange (Ok tt)))

abbrev pub after_set : Load → ℕ → ℕ → ℕ → Load
after_set s t p x = cond (nat_lt t s.tasks && nat_lt p s.processors && nat_le x most) (with_ticks s (written s.ticks t p x)) s

abbrev pub withdraw_answer : Load → ℕ → Answer
withdraw_answer s t = asked (nat_lt t s.tasks) TaskOutOfRange (Ok tt)

abbrev pub after_withdraw : Load → ℕ → Load
after_withdraw s t = cond (nat_lt t s.tasks) (with_ticks s (cleared s.ticks t)) s

abbrev pub reframe_answer : ℕ → Answer
reframe_answer l = asked (from_to 1 most l) FrameOutOfRange (Ok tt)

abbrev pub after_reframe : Load → ℕ → Load
after_reframe s l = cond (from_to 1 most l) (with_frame s l) s

abbrev pub look_answer : Load → ℕ → ℕ → Result ℕ SheetRefusal
look_answer s t p =
    asked (nat_lt t s.tasks) TaskOutOfRange
    (asked (nat_lt p s.processors) ProcessorOutOfRange (Ok (s.ticks t p)))
