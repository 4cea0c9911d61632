-- A cover as a function of the processor, with no lengths.
use Rattle.std.specs.Prelude.{◌≡◌, ℕ, ◌<◌, Bool, true, Some, Option}
use Rattle.graphs.specs.Graphs.{Shape}

-- edges, no two at one node, with every marked node of both sides
pub record Serving (g : Shape) (urgent full : ℕ → Bool) (f : ℕ → Option ℕ) : Type 0 where
  pub edges : (p t : ℕ) → f p ≡ Some t → (t < g.firsts) × (p < g.seconds) × (g.joined t p ≡ true)
  pub apart : (p q t : ℕ) → f p ≡ Some t → f q ≡ Some t → p ≡ q
  pub tasks : (t : ℕ) → t < g.firsts → urgent t ≡ true → (p : ℕ) × (f p ≡ Some t)
  pub processors : (p : ℕ) → p < g.seconds → full p ≡ true → (t : ℕ) × (f p ≡ Some t)
