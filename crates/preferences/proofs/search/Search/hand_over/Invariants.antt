use Rattle.pairings.specs.Rules.{marking}
use Rattle.preferences.specs.Reach.{Walk, depth_of}
use Rattle.preferences.proofs.search.Search.hand_over.Given as goal

abbrev pub invariant-loop-x : goal.invariant-loop-x
invariant-loop-x g l = Walk (g.G.Graph.shape l.self.graph.now) (marking l.self.marks.now) l.self.row.now l.self.start l.task l.trail l.row l.x

abbrev pub decreases-loop-x : goal.decreases-loop-x
decreases-loop-x g l = depth_of l.trail l.x
