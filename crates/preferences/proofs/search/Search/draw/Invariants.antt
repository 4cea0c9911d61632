use Rattle.pairings.specs.Rules.{marking}
use Rattle.preferences.specs.Reach.{Drawing}
use Rattle.preferences.proofs.search.Search.draw.Given as goal

abbrev pub invariant-loop-q : goal.invariant-loop-q
invariant-loop-q g l = Drawing (g.G.Graph.shape l.self.graph.now) (marking l.self.marks.now) l.self.row.now l.self.holder l.self.start l.initial.trail l.trail l.q
