-- Which graphs have a cover, and that every load within its frame has one.
use Rattle.std.specs.Prelude.{◌≡◌, ℕ, ◌<◌, ◌≤◌, Bool, T, ◌⊎◌, ◌≢◌}
use Rattle.graphs.specs.Graphs.{Shape, Row, Deficient, turned}
use Rattle.graphs.specs.Covers.{Marking, Cover}
use Rattle.sheets.specs.Loads.{Load}
use Rattle.plans.specs.Plans.{Within}
use Rattle.plans.specs.Remaining.{graph, marks}

-- marked tasks or marked processors with too few neighbours
abbrev pub Short : Shape → Marking → Type 0
Short g m = ((members : ℕ → Bool) × Deficient g m.urgent members) ⊎ ((members : ℕ → Bool) × Deficient (turned g) m.full members)

abbrev pub Coverable : Shape → Marking → Type 0
Coverable g m = (row : Row) × Cover g m row

-- a graph has a cover or a short set, and never both
abbrev pub CoversStand : Type 0
CoversStand = (g : Shape) (m : Marking) → g.seconds ≤ 16 → (Coverable g m ⊎ Short g m) × (Coverable g m → Short g m → ⊥)

-- a load within its frame has a cover at each tick
abbrev pub LoadsCovered : Type 0
LoadsCovered = (s : Load) → s.processors ≤ 16 → Within s → 0 < s.frame → Coverable (graph s) (marks s)

-- two marked tasks whose only edges lead to processor 0 have no cover
abbrev pub TwoForOne : Type 0
TwoForOne =
    (g : Shape) (m : Marking) (t u : ℕ) → (t ≢ u) → t < g.firsts → u < g.firsts → T (m.urgent t) → T (m.urgent u) →
    ((p : ℕ) → T (g.joined t p) → p ≡ 0) → ((p : ℕ) → T (g.joined u p) → p ≡ 0) → Coverable g m → ⊥
