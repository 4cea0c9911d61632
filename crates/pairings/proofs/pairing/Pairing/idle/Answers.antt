use Rattle.std.proofs.Common.{refl}
use Rattle.pairings.proofs.Seeing.{idle_paired}
use Rattle.pairings.proofs.pairing.Pairing.idle.Goals as goal

pub invariant_of-result : goal.invariant_of-result
invariant_of-result c = record { wide = refl; paired = ∣ idle_paired ∣₁ }
