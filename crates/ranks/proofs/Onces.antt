-- The table of the ranks seen.
use Rattle.std.proofs.Common.{◌≡◌, ℕ, ◌<◌, Bool, false, List, replicate, arith}
use lib.ListN.{length-replicate}
use Rattle.std.proofs.lemmas.Bool.{both_ways}
use Rattle.graphs.specs.Search.{flag}
use Rattle.ranks.specs.Ranks.{Ranked, EachOnce, rank_of}
use Rattle.graphs.proofs.Tables.{filled}

pub ranked_none : (ranks : List ℕ) → Ranked ranks (replicate 64 false) 0
ranked_none ranks = record {
  wide = length-replicate {A = Bool} 64 false;
  low = λ t l. absurd (omega arith);
  apart = λ s t l. absurd (omega arith);
  known = λ r h. absurd (both_ways (flag (replicate 64 false) r) (filled false 64 r) h);
  marked = λ t l. absurd (omega arith);
}

-- numbers are ranks that stand once each
pub numbered_once : (ranks : List ℕ) → ((t : ℕ) → t < 64 → rank_of ranks t ≡ t) → EachOnce ranks
numbered_once ranks same =
    record {
      low = λ t h. omega (arith, same t h);
      apart = λ s t hs ht e. omega (arith, same s hs, same t ht);
    }
