-- `plans::cover_or_deficient_set`: the theorem.
use Rattle.plans.proofs.cover_or_deficient_set.Goals as goal
use Rattle.plans.proofs.Covers.{covers_stand}

pub returns : goal.returns
returns c = covers_stand
