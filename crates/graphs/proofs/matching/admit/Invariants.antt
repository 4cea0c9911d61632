use Rattle.std.proofs.Common.{is_some}
use Rattle.std.specs.List.{count_by}
use Rattle.graphs.specs.Search.{Walk, flag}
use Rattle.graphs.proofs.matching.admit.Given as goal

abbrev pub invariant-loop-c : goal.invariant-loop-c
invariant-loop-c g l = Walk (g.G.Graph.shape l.graph) (flag l.marked) l.start l.owner l.hops l.b

abbrev pub decreases-loop-c : goal.decreases-loop-c
decreases-loop-c g l = count_by is_some l.hops
