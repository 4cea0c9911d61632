use Rattle.std.proofs.Common.{arith}
use Rattle.builder.proofs.left.laying.take_ticks.Goals as goal

pub bounds-lines-from : goal.bounds-lines-from
bounds-lines-from c = omega (arith, c.from.ensures, (c.requires c.loop-processor.processor c.in-Some.task c.in-Some.is).0)
