use Rattle.std.proofs.Common.{sym, subst}
use Rattle.preferences.specs.Reach.{More}
use Rattle.preferences.proofs.Reaching.{more_none, more_on}
use Rattle.preferences.proofs.search.Search.follow.Goals as goal
use Rattle.preferences.proofs.search.Search.follow.Goals.{then-may_let_go, else-may_let_go}

pub returns-in-Some-clause-more : goal.returns-in-Some-clause-more
returns-in-Some-clause-more g c = elim c.if-may_let_go.branch [
  | then-may_let_go w ↦ more_on _ _ _ (subst (More c.args.trail.now) (sym w.trail-is) w.reach.ensures.more) c.pass_on.ensures.more
  | else-may_let_go w ↦ more_on _ _ _ (subst (More c.args.trail.now) (sym w.trail-is) (more_none c.args.trail.now)) c.pass_on.ensures.more
]
