-- Tasks are the first side of a graph, processors the second: marked nodes of both, and the rows that serve them.
use Rattle.std.specs.Prelude.{◌≡◌, ℕ, ◌<◌, ◌≤◌, Bool, T, length, replicate, Some, None}
use Rattle.graphs.specs.Graphs.{Shape, Row, at}

-- which tasks are urgent, and which processors full
pub record Marking : Type 0 where
  pub urgent : ℕ → Bool
  pub full : ℕ → Bool

-- a pairing made of edges that contains every marked task and every marked processor;
-- a graph with more than 16 processors has none
pub record Cover (g : Shape) (marks : Marking) (row : Row) : Type 0 where
  pub few : g.seconds ≤ 16
  pub wide : length row ≡ 16
  pub edges : (p t : ℕ) → at row p ≡ Some t → (t < g.firsts) × (p < g.seconds) × T (g.joined t p)
  pub apart : (p q t : ℕ) → at row p ≡ Some t → at row q ≡ Some t → p ≡ q
  pub tasks : (t : ℕ) → t < g.firsts → T (marks.urgent t) → (p : ℕ) × (at row p ≡ Some t)
  pub processors : (p : ℕ) → p < g.seconds → T (marks.full p) → (t : ℕ) × (at row p ≡ Some t)

-- every processor idle
abbrev pub all_idle : Row
all_idle = replicate 16 None
