use Rattle.graphs.specs.Rows.{Seen}
use Rattle.graphs.proofs.rows.each_new_before.Given as goal

abbrev pub invariant-loop-place : goal.invariant-loop-place
invariant-loop-place g l = Seen g.row.N l.bound l.end l.row l.seen l.place
