use Rattle.graphs.specs.Search.{Matched, flag}
use Rattle.graphs.proofs.matching.search.Given as goal

abbrev pub invariant-loop-start : goal.invariant-loop-start
invariant-loop-start g l = Matched (g.G.Graph.shape l.graph) (flag l.marked) l.start l.owner
