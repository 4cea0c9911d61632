-- What replacing the ranks of a list answers, and the ranks that it leaves.
use Rattle.std.specs.Prelude.{◌≡◌, ℕ, List, Ok, Err, Result}
use Rattle.ranks.specs.Ranks.{EachOnce}
use Rattle.ranks.specs.declared.refusals.RankRefusal.{RankRefusal}
use Rattle.ranks.specs.declared.refusals.RankRefusal.TheVariants.{NotEachOnce}

-- the new ranks where each stands once, else the old ones
abbrev pub Replaced : List ℕ → List ℕ → List ℕ → Result (Unit {0}) RankRefusal → Type 0
Replaced old ranks new (Ok _) = EachOnce ranks × (new ≡ ranks)
Replaced old ranks new (Err NotEachOnce) = (EachOnce ranks → ⊥) × (new ≡ old)
