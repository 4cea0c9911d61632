use Rattle.pairings.specs.Rules.{marking}
use Rattle.preferences.specs.Reach.{Exploring, left_over}
use Rattle.preferences.proofs.search.Search.explore.Given as goal

abbrev pub invariant-loop-x : goal.invariant-loop-x
invariant-loop-x g l = Exploring (g.G.Graph.shape l.self.graph.now) (marking l.self.marks.now) l.self.row.now l.self.holder l.self.start l.trail

abbrev pub decreases-loop-x : goal.decreases-loop-x
decreases-loop-x g l = left_over l.trail
