use Rattle.std.proofs.Common.{ℕ, ◌+◌, ◌<◌, Option, sym, subst, arith}
use Rattle.preferences.specs.Reach.{Chosen, reached}
use Rattle.preferences.proofs.Choosing.{chosen_not, chosen_skip, chosen_take}
use Rattle.preferences.proofs.search.Search.choose.Goals as goal
use Rattle.preferences.proofs.search.Search.choose.Goals.{then-at_hand+then-preferred, else-at_hand, else-at_hand-via-then-at_hand+else-preferred, else-at_hand-via-else-at_hand}

pub loop-task-preserved : goal.loop-task-preserved
loop-task-preserved g c =
    let s = c.args.self.now in
    let w = c.loop-task.invariant in
    let small = c.firsts-task-end.ensures.small in
    let order = g.P.Preference.order c.args.preference.now in
    let at_trail = reached c.args.trail.now in
    let inside : c.loop-task.task < (g.G.Graph.shape s.graph.now).firsts = omega (arith, c.loop-task-test.true, c.firsts-task-end.ensures.is) in
    let prefers = g.P.Preference.preferring c.args.preference.now in
    let Next : Option ℕ → Type 0 = λ o. Chosen order c.args.had (g.G.Graph.shape s.graph.now) s.holder at_trail s.start (c.loop-task.task + 1) o in
    elim c.if-at_hand.branch [
      | then-at_hand+then-preferred b ↦ subst Next (sym b.best-is)
          (chosen_take order _ _ small s.holder at_trail _ _ prefers _ inside _ w b.preferred.ensures b.if-preferred.true _ c.at_hand.ensures b.if-at_hand.true)
      | else-at_hand b ↦ subst Next (sym b.best-is)
          (elim b.else-at_hand.branch [
            | else-at_hand-via-then-at_hand+else-preferred d ↦ chosen_skip order _ _ small s.holder at_trail _ _ prefers _ inside _ w d.preferred.ensures d.if-preferred.false
            | else-at_hand-via-else-at_hand d ↦ chosen_not order c.args.had _ small s.holder at_trail _ _ _ w _ c.at_hand.ensures d.if-at_hand.false
          ])
    ]
