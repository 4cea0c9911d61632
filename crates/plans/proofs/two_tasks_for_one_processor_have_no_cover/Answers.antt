-- `plans::two_tasks_for_one_processor_have_no_cover`: the theorem.
use Rattle.plans.proofs.two_tasks_for_one_processor_have_no_cover.Goals as goal
use Rattle.plans.proofs.Crowding.{two_for_one}

pub returns : goal.returns
returns c = two_for_one
