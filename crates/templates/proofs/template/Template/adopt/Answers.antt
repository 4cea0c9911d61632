use Rattle.std.proofs.Common.{◌≤◌, length, arith}
use Rattle.templates.proofs.Soundness.{adopted_sound}
use Rattle.templates.proofs.template.Template.adopt.Goals as goal

pub invariant_of-self : goal.invariant_of-self
invariant_of-self c =
    let size = c.in_ok-size.size in
    let short : length c.args.slots.now ≤ 1104 = omega arith in
    record { sound = ∣ adopted_sound _ _ _ _ size.tasked.0 size.tasked.1 size.manned.0 size.manned.1 size.framed.0 size.framed.1 short c.in_ok-slots_asked.ensures c.replace.ensures ∣₁ }
