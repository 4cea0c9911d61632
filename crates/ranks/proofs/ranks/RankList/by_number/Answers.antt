use Rattle.std.proofs.Common.{rules}
use Rattle.ranks.proofs.Onces.{numbered_once}
use Rattle.ranks.proofs.ranks.RankList.by_number.Goals as goal

pub invariant_of-result : goal.invariant_of-result
invariant_of-result c = record { once = ∣ numbered_once _ (λ t l. let (p, q, called) = c.from_fn.ensures.items.at t 0 l in search rules) ∣₁ }

pub returns : goal.returns
returns c = λ t l. let (p, q, called) = c.from_fn.ensures.items.at t 0 l in search rules
