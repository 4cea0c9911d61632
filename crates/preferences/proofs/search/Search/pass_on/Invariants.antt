use Rattle.pairings.specs.Rules.{marking}
use Rattle.preferences.specs.Reach.{Passing}
use Rattle.preferences.proofs.search.Search.pass_on.Given as goal

abbrev pub invariant-loop-q : goal.invariant-loop-q
invariant-loop-q g l = Passing (g.G.Graph.shape l.self.graph.now) (marking l.self.marks.now) l.self.row.now l.self.start l.y l.task l.initial.trail l.trail l.q
