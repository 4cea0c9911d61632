use Rattle.std.proofs.Common.{ℕ, ◌<◌}
use Rattle.graphs.specs.Search.{Exhausted}
use Rattle.graphs.proofs.matching.way_out.Given as goal

abbrev pub invariant-loop-via : goal.invariant-loop-via
invariant-loop-via g l = (c : ℕ) → c < l.via → Exhausted (g.G.Graph.shape l.graph) l.owner l.hops c
