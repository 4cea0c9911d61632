-- Graphs of two sides, sets of marked nodes, and rows.
use Rattle.std.specs.Prelude.{ℕ, ◌<◌, ◌≤◌, Bool, ◌&&◌, T, List, None, Option, slice_index_or}
use Rattle.counting.specs.Sums.{count_below, any_below}

-- how many nodes each side has, and whether an edge joins two of them
pub record Shape : Type 0 where
  pub firsts : ℕ
  pub seconds : ℕ
  pub joined : ℕ → ℕ → Bool

-- at most 64 nodes on each side
pub record Small (g : Shape) : Type 0 where
  pub firsts_few : g.firsts ≤ 64
  pub seconds_few : g.seconds ≤ 64

-- the graph with its sides exchanged
abbrev pub turned : Shape → Shape
turned g = record { firsts = g.seconds; seconds = g.firsts; joined = λ a b. g.joined b a }

-- the second-side nodes that an edge joins to a member of the set
abbrev pub neighbour : Shape → (ℕ → Bool) → ℕ → Bool
neighbour g members b = any_below g.firsts (λ a. members a && g.joined a b)

-- a set of marked first-side nodes that has fewer neighbours than members
pub record Deficient (g : Shape) (marked : ℕ → Bool) (members : ℕ → Bool) : Type 0 where
  pub within : (a : ℕ) → a < g.firsts → T (members a) → T (marked a)
  pub fewer : count_below g.seconds (neighbour g members) < count_below g.firsts members

-- entry b of a row is the first-side node at the second-side node b, or nobody
abbrev pub Row : Type 0
Row = List (Option ℕ)

abbrev pub at : Row → ℕ → Option ℕ
at row b = slice_index_or row b None
