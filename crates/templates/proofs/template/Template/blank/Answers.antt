use Rattle.std.proofs.Common.{sym, subst}
use Rattle.templates.specs.Layouts.{laid, Sound}
use Rattle.templates.proofs.Soundness.{blank_sound}
use Rattle.templates.proofs.template.Template.blank.Goals as goal

pub invariant_of-result-2 : goal.invariant_of-result-2
invariant_of-result-2 c = record { sound = ∣ subst (λ slots. Sound (laid 1 1 1 slots)) (sym c.idle.ensures) blank_sound ∣₁ }
