use Rattle.sheets.specs.Tables.{tick_at}
use Rattle.sheets.proofs.Lines.{light_at, zero_at, cleared_light, cleared_zero}
use Rattle.sheets.proofs.sheet.Sheet.withdraw.Goals as goal

pub invariant_of-self : goal.invariant_of-self
invariant_of-self c =
    let s = c.args.self.now in
    let f = tick_at s.table in
    let e = c.clear_line.ensures in
    record {
      light = light_at e (cleared_light f _ s.light);
      below = λ a b h. zero_at e a b (cleared_zero f _ a b (s.below a b h));
      beside = λ a b h. zero_at e a b (cleared_zero f _ a b (s.beside a b h));
    }
