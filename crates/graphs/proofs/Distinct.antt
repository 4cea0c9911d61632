-- The table of the entries seen.
use Rattle.std.proofs.Common.{◌≡◌, ℕ, ◌<◌, ◌≤◌, Bool, false, List, length, replicate, Some, None, ⊎_elim, arith}
use lib.ListN.{length-replicate}
use Rattle.std.proofs.lemmas.Bool.{cases_lt, both_ways}
use Rattle.std.proofs.lemmas.List.{get_or_past}
use Rattle.graphs.specs.Graphs.{Row, at}
use Rattle.graphs.specs.Search.{flag}
use Rattle.graphs.specs.Rows.{DistinctBefore, Seen}
use Rattle.graphs.proofs.Tables.{filled}

pub seen_none : (n bound m : ℕ) (row : Row) → Seen n bound m row (replicate n false) 0
seen_none n bound m row = record {
  wide = length-replicate {A = Bool} n false;
  small = λ p t l. absurd (omega arith);
  before = λ p t l. absurd (omega arith);
  apart = λ p q t l. absurd (omega arith);
  known = λ t h. absurd (both_ways (flag (replicate n false) t) (filled false n t) h);
  marked = λ p t l. absurd (omega arith);
}

pub seen_all : (n bound m : ℕ) (row : Row) (seen : List Bool) (k : ℕ) → Seen n bound m row seen k → length row ≤ k → DistinctBefore bound m row
seen_all n bound m row seen k w all = record {
  distinct = record {
    small = λ p t h. w.small p t (inside p t h) h;
    apart = λ p q t h g. w.apart p q t (inside p t h) (inside q t g) h g;
  };
  before = λ p t h. w.before p t (inside p t h) h;
}
  where
    inside : (p t : ℕ) → at row p ≡ Some t → p < k
    inside p t h = ⊎_elim (λ l. omega arith) (λ l. let e = get_or_past row p None l in absurd (cc)) (cases_lt p (length row))
