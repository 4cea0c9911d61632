-- A load from its table, and the same load read the other way.
use Rattle.std.specs.Prelude.{ℕ, List}
use Rattle.sheets.specs.Cells.{cell}
use Rattle.sheets.specs.Loads.{Load}

abbrev pub load_from : ℕ → ℕ → ℕ → List (List ℕ) → Load
load_from n m frame lines = record { tasks = n; processors = m; frame = frame; ticks = cell lines }

-- the load with its tasks and processors exchanged
abbrev pub across : Load → Load
across s = record { tasks = s.processors; processors = s.tasks; frame = s.frame; ticks = λ p t. s.ticks t p }
