use Rattle.pairings.specs.Rules.{marking}
use Rattle.preferences.specs.Reach.{Leading}
use Rattle.preferences.proofs.first.FirstRule.advanced.Given as goal

abbrev pub invariant-loop-p : goal.invariant-loop-p
invariant-loop-p g l = Leading (g.P.Preference.order l.self.preference) l.before.row (g.G.Graph.shape l.graph) (marking l.marks) l.row l.p
