use Rattle.std.proofs.Common.{◌<◌, rules, arith}
use Rattle.sheets.specs.Tables.{tick_at}
use Rattle.sheets.proofs.Lines.{light_at, zero_at, written_light, written_below, written_beside}
use Rattle.sheets.proofs.sheet.Sheet.set.Goals as goal

-- the ticks stay open, so that what is stored is asked of the clauses alone
pub invariant_of-self : goal.invariant_of-self
invariant_of-self c =
    let s = c.args.self.now in
    let f = tick_at s.table in
    let e = c.put.ensures in
    let task_low : c.in_ok-task.task < s.size.tasks = search rules in
    let processor_low : c.in_ok-processor.processor < s.size.processors = search rules in
    record {
      light = light_at e (written_light f _ _ _ (omega arith) s.light);
      below = λ a b h. zero_at e a b (written_below f _ _ _ s.size.tasks task_low s.below a b h);
      beside = λ a b h. zero_at e a b (written_beside f _ _ _ s.size.processors processor_low s.beside a b h);
    }
