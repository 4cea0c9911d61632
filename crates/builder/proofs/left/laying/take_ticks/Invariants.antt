use Rattle.builder.specs.Lasting.{Taken}
use Rattle.builder.proofs.left.laying.take_ticks.Given as goal

abbrev pub invariant-loop-processor : goal.invariant-loop-processor
invariant-loop-processor l = Taken l.initial.lines l.lines l.row l.processor l.ticks
