-- `plans::every_slot_has_a_cover`: the theorem.
use Rattle.plans.proofs.every_slot_has_a_cover.Goals as goal
use Rattle.plans.proofs.Covers.{loads_covered}

pub returns : goal.returns
returns c = loads_covered
