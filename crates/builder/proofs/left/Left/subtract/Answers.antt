use Rattle.std.proofs.Common.{sym, subst, arith}
use Rattle.plans.specs.Plans.{Within}
use Rattle.builder.specs.Lefts.{left_of}
use Rattle.builder.proofs.Steps.{within_laid}
use Rattle.builder.proofs.Taking.{laid_lines}
use Rattle.builder.proofs.left.Left.subtract.Goals as goal

pub take_ticks-requires : goal.take_ticks-requires
take_ticks-requires c = λ p t e. let edge = c.requires.cover.edges p t e in (omega (arith, edge.0, c.args.self.now.work.few), c.requires.may.pairs p t edge.1 e)

pub invariant_of-self-3 : goal.invariant_of-self-3
invariant_of-self-3 c =
    let work = c.args.self.now.work in
    let same = laid_lines work.tasks work.processors work.frame work.ticks c.take_ticks.new.lines c.args.row.now c.args.ticks c.take_ticks.ensures c.requires.cover in
    record { within = subst Within (sym same) (within_laid (left_of c.args.self.now) c.args.row.now c.args.ticks c.requires.cover c.requires.may c.args.self.now.within) }
