-- Orders of the tasks, and the first of all covers by one.
use Rattle.std.specs.Prelude.{◌≡◌, ℕ, ◌<◌, Bool, T, ◌⊎◌, Some, None, Option, ◌≢◌}
use Rattle.graphs.specs.Graphs.{Shape, Row, at}
use Rattle.graphs.specs.Covers.{Marking, Cover}

-- at a processor, by the task it had: whether one task comes before another
abbrev pub Order : Type 0
Order = ℕ → Option ℕ → ℕ → ℕ → Bool

-- a strict total order of the tasks below 64
pub record Preferring (before : Order) : Type 0 where
  pub not_itself : (p : ℕ) (had : Option ℕ) (a : ℕ) → T (before p had a a) → ⊥
  pub one_of_two : (p : ℕ) (had : Option ℕ) (a b : ℕ) → a < 64 → b < 64 → (a ≢ b) → T (before p had a b) ⊎ T (before p had b a)
  pub not_both : (p : ℕ) (had : Option ℕ) (a b : ℕ) → T (before p had a b) → T (before p had b a) → ⊥
  pub small : (p : ℕ) (had : Option ℕ) (a b : ℕ) → T (before p had a b) → (a < 64) × (b < 64)
  pub through : (p : ℕ) (had : Option ℕ) (a b c : ℕ) → T (before p had a b) → T (before p had b c) → T (before p had a c)

-- one entry comes before another: a preferred task first, idle last
abbrev pub EntryBefore : Order → ℕ → Option ℕ → Option ℕ → Option ℕ → Type 0
EntryBefore before p had (Some a) (Some b) = T (before p had a b)
EntryBefore before p had (Some a) None = Unit {0}
EntryBefore before p had None (Some b) = ⊥
EntryBefore before p had None None = ⊥

-- at the first place where two rows differ, the one comes before the other
pub record RowBefore (order : Order) (had row other : Row) : Type 0 where
  pub place : ℕ
  pub same : (p : ℕ) → p < place → at row p ≡ at other p
  pub differs : EntryBefore order place (at had place) (at row place) (at other place)

-- a cover that comes before every other
pub record First (order : Order) (g : Shape) (marks : Marking) (had row : Row) : Type 0 where
  pub cover : Cover g marks row
  pub first : (other : Row) → Cover g marks other → (row ≡ other) ⊎ RowBefore order had row other
