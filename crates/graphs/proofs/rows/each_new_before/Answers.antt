use Rattle.std.proofs.Common.{arith, rules}
use Rattle.graphs.proofs.Distinct.{seen_none, seen_all}
use Rattle.graphs.proofs.rows.each_new_before.Goals as goal

pub loop-place-init : goal.loop-place-init
loop-place-init g c = seen_none _ _ _ _

pub returns : goal.returns
returns g c = (λ _. seen_all _ _ _ _ _ _ c.loop-place.invariant (omega arith), λ _. search rules)
