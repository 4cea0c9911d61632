-- A row read the other way.
use Rattle.std.specs.Prelude.{◌≡◌, ℕ, ◌<◌, length, Some}
use Rattle.graphs.specs.Graphs.{Row, at}

-- the entries of a row, read the other way into a row of m places
pub record Flipped (m : ℕ) (back row : Row) : Type 0 where
  pub wide : length row ≡ m
  pub forth : (a b : ℕ) → at back a ≡ Some b → at row b ≡ Some a
  pub again : (a b : ℕ) → at row b ≡ Some a → at back a ≡ Some b

-- the same, of the entries below k
pub record HalfFlipped (m : ℕ) (back : Row) (k : ℕ) (row : Row) : Type 0 where
  pub wide : length row ≡ m
  pub forth : (a b : ℕ) → a < k → at back a ≡ Some b → at row b ≡ Some a
  pub again : (a b : ℕ) → at row b ≡ Some a → (a < k) × (at back a ≡ Some b)
