-- Rows in which nobody stands twice.
use Rattle.std.specs.Prelude.{◌≡◌, ℕ, ◌<◌, Bool, true, List, length, Some}
use Rattle.graphs.specs.Graphs.{Row, at}
use Rattle.graphs.specs.Search.{flag}

-- entries below the bound, none twice
pub record Distinct (bound : ℕ) (row : Row) : Type 0 where
  pub small : (p t : ℕ) → at row p ≡ Some t → t < bound
  pub apart : (p q t : ℕ) → at row p ≡ Some t → at row q ≡ Some t → p ≡ q

-- the same, and all of them at places before m
pub record DistinctBefore (bound m : ℕ) (row : Row) : Type 0 where
  pub distinct : Distinct bound row
  pub before : (p t : ℕ) → at row p ≡ Some t → p < m

-- the same of the first k entries, with a table of the entries seen below n
pub record Seen (n bound m : ℕ) (row : Row) (seen : List Bool) (k : ℕ) : Type 0 where
  pub wide : length seen ≡ n
  pub small : (p t : ℕ) → p < k → at row p ≡ Some t → t < bound
  pub before : (p t : ℕ) → p < k → at row p ≡ Some t → p < m
  pub apart : (p q t : ℕ) → p < k → q < k → at row p ≡ Some t → at row q ≡ Some t → p ≡ q
  pub known : (t : ℕ) → flag seen t ≡ true → (p : ℕ) × (p < k) × (at row p ≡ Some t)
  pub marked : (p t : ℕ) → p < k → at row p ≡ Some t → flag seen t ≡ true
