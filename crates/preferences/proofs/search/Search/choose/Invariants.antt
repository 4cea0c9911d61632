use Rattle.preferences.specs.Reach.{Chosen, reached}
use Rattle.preferences.proofs.search.Search.choose.Given as goal

abbrev pub invariant-loop-task : goal.invariant-loop-task
invariant-loop-task g l = Chosen (g.P.Preference.order l.preference) l.had (g.G.Graph.shape l.self.graph.now) l.self.holder (reached l.trail) l.self.start l.task l.best
