-- The number of each refusal of a sheet and of a size, and the refusal of a sheet for each of a size.
use Rattle.std.specs.Prelude.{ℕ}
use Rattle.sheets.specs.declared.refusals.SheetRefusal.{SheetRefusal}
use Rattle.sheets.specs.declared.refusals.SizeRefusal.{SizeRefusal}
use Rattle.sheets.specs.declared.refusals.SizeRefusal.TheVariants.{TasksOutOfRange as TasksWrong, ProcessorsOutOfRange as ProcessorsWrong, FrameOutOfRange as FrameWrong}
use Rattle.sheets.specs.declared.refusals.SheetRefusal.TheVariants.{TasksOutOfRange, ProcessorsOutOfRange, FrameOutOfRange, TaskOutOfRange, ProcessorOutOfRange, TicksOutOfRange}

abbrev pub number_of : SheetRefusal → ℕ
number_of TasksOutOfRange = 1
number_of ProcessorsOutOfRange = 2
number_of FrameOutOfRange = 3
number_of TaskOutOfRange = 4
number_of ProcessorOutOfRange = 5
number_of TicksOutOfRange = 6

abbrev pub of_size : SizeRefusal → SheetRefusal
of_size TasksWrong = TasksOutOfRange
of_size ProcessorsWrong = ProcessorsOutOfRange
of_size FrameWrong = FrameOutOfRange

abbrev pub size_number_of : SizeRefusal → ℕ
size_number_of refusal = number_of (of_size refusal)
