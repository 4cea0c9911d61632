-- What a size says, and what making one answers: the first question that fails refuses it.
use Rattle.std.specs.Prelude.{ℕ, Ok, Err, Result}
use Rattle.sheets.specs.Questions.{from_to, most, asked}
use Rattle.sheets.specs.declared.size.Size.{Size}
use Rattle.sheets.specs.declared.refusals.SizeRefusal.{SizeRefusal}
use Rattle.sheets.specs.declared.refusals.SizeRefusal.TheVariants.{TasksOutOfRange, ProcessorsOutOfRange, FrameOutOfRange}

pub record Extent : Type 0 where
  pub tasks : ℕ
  pub processors : ℕ
  pub frame : ℕ

abbrev pub extent : ℕ → ℕ → ℕ → Extent
extent n m l = record { tasks = n; processors = m; frame = l }

abbrev pub told : Result Size SizeRefusal → Result Extent SizeRefusal
told (Ok s) = Ok (extent s.tasks s.processors s.frame)
told (Err refusal) = Err refusal

abbrev pub size_answer : ℕ → ℕ → ℕ → Result Extent SizeRefusal
size_answer n m l =
    asked (from_to 1 64 n) TasksOutOfRange
    (asked (from_to 1 16 m) ProcessorsOutOfRange
    (asked (from_to 1 most l) FrameOutOfRange (Ok (extent n m l))))
