-- The number of each refusal of a template, and the refusal of a template for each of a size.
use Rattle.std.specs.Prelude.{ℕ}
use Rattle.sheets.specs.declared.refusals.SizeRefusal.{SizeRefusal}
use Rattle.sheets.specs.declared.refusals.SizeRefusal.TheVariants.{TasksOutOfRange as TasksWrong, ProcessorsOutOfRange as ProcessorsWrong, FrameOutOfRange as FrameWrong}
use Rattle.templates.specs.declared.refusals.TemplateRefusal.{TemplateRefusal}
use Rattle.templates.specs.declared.refusals.TemplateRefusal.TheVariants.{TasksOutOfRange, ProcessorsOutOfRange, FrameOutOfRange, TooManySlots, SlotTicksOutOfRange, SlotPairsWrong, SlotsDoNotAddUp}

abbrev pub number_of : TemplateRefusal → ℕ
number_of TasksOutOfRange = 1
number_of ProcessorsOutOfRange = 2
number_of FrameOutOfRange = 3
number_of TooManySlots = 9
number_of SlotTicksOutOfRange = 10
number_of SlotPairsWrong = 11
number_of SlotsDoNotAddUp = 12

abbrev pub of_size : SizeRefusal → TemplateRefusal
of_size TasksWrong = TasksOutOfRange
of_size ProcessorsWrong = ProcessorsOutOfRange
of_size FrameWrong = FrameOutOfRange
