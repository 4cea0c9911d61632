-- The first line of a load whose total passes the frame.
use Rattle.std.specs.Prelude.{ℕ, ◌<◌, ◌≤◌, Some, None, Option}
use Rattle.sheets.specs.Loads.{Load, task_total}
use Rattle.builder.specs.Reading.{across}
use Rattle.builder.specs.declared.lines.Line.{Line}
use Rattle.builder.specs.declared.lines.Line.TheVariants.{Task, Processor}

abbrev pub TaskOver : Load → Option ℕ → Type 0
TaskOver s None = (t : ℕ) → t < s.tasks → task_total s t ≤ s.frame
TaskOver s (Some t) = (t < s.tasks) × (s.frame < task_total s t) × ((u : ℕ) → u < t → task_total s u ≤ s.frame)

-- the same of the processors, which are the tasks of the load across
abbrev pub ProcessorOver : Load → Option ℕ → Type 0
ProcessorOver s = TaskOver (across s)

-- the lowest task over the frame, else the lowest processor
abbrev pub Over : Load → Line → Type 0
Over s (Task t) = TaskOver s (Some t)
Over s (Processor p) = TaskOver s None × ProcessorOver s (Some p)
