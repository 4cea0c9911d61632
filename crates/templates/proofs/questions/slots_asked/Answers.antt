use Rattle.std.proofs.Common.{◌<◌, arith}
use Rattle.std.proofs.lemmas.Result.{err_from_is_err_and}
use Rattle.templates.proofs.Asking.{passed_more, passed_fails}
use Rattle.templates.proofs.questions.slots_asked.Goals as goal

pub loop-slot-preserved : goal.loop-slot-preserved
loop-slot-preserved c =
    let small : c.args.size.frame < 4294967296 = omega (arith, c.args.size.framed.1) in
    rw c.from-sum.ensures (passed_more c.loop-slot.invariant c.loop-slot-test.true c.in_ok-slot_asked.field-0 small c.in_ok-slot_asked.ensures)

pub returns-in_err-slot_asked : goal.returns-in_err-slot_asked
returns-in_err-slot_asked c =
    let p = err_from_is_err_and c.from_residual.result c.from_residual.ensures.1 in
    rw (p.1, p.2) (passed_fails c.loop-slot.invariant c.loop-slot-test.true c.in_err-slot_asked.field-0.0 c.in_err-slot_asked.ensures)
