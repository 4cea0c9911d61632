-- Rows with no task twice.
use Rattle.graphs.specs.Graphs.{Row}
use Rattle.graphs.specs.Rows.{Distinct}

-- a pairing: tasks below 64, none twice
abbrev pub Paired : Row → Type 0
Paired row = Distinct 64 row
