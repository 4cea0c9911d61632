-- The graph of what is left to lay, and its marked nodes.
use Rattle.std.specs.Prelude.{◌&&◌, ◌==◌, nat_lt}
use Rattle.graphs.specs.Graphs.{Shape}
use Rattle.graphs.specs.Covers.{Marking}
use Rattle.sheets.specs.Loads.{Load, task_total, processor_total}

-- what is left to lay: a load whose frame is the ticks not yet laid
abbrev pub graph : Load → Shape
graph left = record { firsts = left.tasks; seconds = left.processors; joined = λ t p. nat_lt t left.tasks && (nat_lt p left.processors && nat_lt 0 (left.ticks t p)) }

abbrev pub marks : Load → Marking
marks left = record { urgent = λ t. (task_total left t == left.frame); full = λ p. (processor_total left p == left.frame) }
