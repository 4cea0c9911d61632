use Rattle.std.proofs.Common.{is_none}
use Rattle.std.specs.List.{count_by}
use Rattle.graphs.specs.Search.{Grown, Owned}
use Rattle.graphs.proofs.matching.explore.Given as goal

abbrev pub invariant-loop-to : goal.invariant-loop-to
invariant-loop-to g l = Grown (g.G.Graph.shape l.graph) l.start l.owner l.hops × Owned l.owner l.hops

abbrev pub decreases-loop-to : goal.decreases-loop-to
decreases-loop-to g l = count_by is_none l.hops
