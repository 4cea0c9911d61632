-- How long a row may last at a line, and ticks taken from lines.
use Rattle.std.specs.Prelude.{◌≡◌, ℕ, ◌-◌, ◌<◌, List, length, position, Some, None, Option, ◌≢◌}
use Rattle.graphs.specs.Graphs.{Row, at}
use Rattle.sheets.specs.Cells.{cell}
use Rattle.sheets.specs.Loads.{Load, task_total}
use Rattle.plans.specs.Plans.{is_task}

-- how long a task may last: the ticks of its pair, or its slack where it has none
abbrev pub lasting : Load → ℕ → Option ℕ → ℕ
lasting left t None = left.frame - task_total left t
lasting left t (Some p) = left.ticks t p

-- the first processor that has the task
abbrev pub holder : Row → ℕ → Option ℕ
holder row t = position (is_task t) row

-- d ticks are taken from each pair that the row has below m
pub record Taken (lines lines' : List (List ℕ)) (row : Row) (m d : ℕ) : Type 0 where
  pub tall : length lines' ≡ length lines
  pub here : (t p : ℕ) → p < m → at row p ≡ Some t → cell lines' t p ≡ cell lines t p - d
  pub off : (t p : ℕ) → (p < m → at row p ≢ Some t) → cell lines' t p ≡ cell lines t p
