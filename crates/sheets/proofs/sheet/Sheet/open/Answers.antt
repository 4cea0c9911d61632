use Rattle.sheets.proofs.Lines.{all_light, all_zero}
use Rattle.sheets.proofs.sheet.Sheet.open.Goals as goal

pub invariant_of-self : goal.invariant_of-self
invariant_of-self c =
    let e = c.clear.ensures in
    record {
      light = all_light e;
      below = λ t p _. all_zero e t p;
      beside = λ t p _. all_zero e t p;
    }
