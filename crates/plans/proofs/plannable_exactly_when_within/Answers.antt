-- `plans::plannable_exactly_when_within`: the theorem.
use Rattle.plans.proofs.plannable_exactly_when_within.Goals as goal
use Rattle.plans.proofs.Plannable.{plans_stand}

pub returns : goal.returns
returns c = plans_stand
