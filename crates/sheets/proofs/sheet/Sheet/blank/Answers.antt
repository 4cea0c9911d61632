use Rattle.sheets.proofs.Lines.{all_light, all_zero}
use Rattle.sheets.proofs.sheet.Sheet.blank.Goals as goal

pub invariant_of-result-2 : goal.invariant_of-result-2
invariant_of-result-2 c =
    let e = c.blank.ensures in
    record {
      light = all_light e;
      below = λ t p _. all_zero e t p;
      beside = λ t p _. all_zero e t p;
    }
