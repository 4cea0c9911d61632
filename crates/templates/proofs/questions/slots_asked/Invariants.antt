use Rattle.templates.proofs.Asking.{Passed}
use Rattle.templates.proofs.questions.slots_asked.Given as goal

abbrev pub invariant-loop-slot : goal.invariant-loop-slot
invariant-loop-slot l = Passed l.size.tasks l.size.processors l.size.frame l.slots l.sum l.slot-index
