-- Pairings of a graph: rows made of edges, in which each first node stands once at most.
use Rattle.std.proofs.Common.{◌≡◌, ℕ, ◌<◌, ◌≤◌, true, Some, None, sym, refl, ◌∙◌, subst, inl, inr}
use Rattle.std.proofs.lemmas.Bool.{cases_eq}
use Rattle.graphs.specs.Graphs.{Shape}
use Rattle.plans.proofs.Rows.{Row, used, put, nobody, put_at, put_off, none_or_some, same_entry}

-- what may stand in a row: u at q
abbrev pub Edge : Shape → ℕ → ℕ → Type 0
Edge g u q = (u < g.firsts) × (g.joined u q ≡ true)

-- every entry of the row keeps the rule
abbrev pub Entries : ℕ → (ℕ → ℕ → Type 0) → Row → Type 0
Entries m rule row = (q u : ℕ) → q < m → row q ≡ Some u → rule u q

pub record Pairing (g : Shape) (row : Row) : Type 0 where
  pub edges : Entries g.seconds (Edge g) row
  pub once : (u : ℕ) → used g.seconds row u ≤ 1

pub nobody_entries : (m : ℕ) (rule : ℕ → ℕ → Type 0) → Entries m rule nobody
nobody_entries m rule q u h e = absurd (none_or_some None u refl e)

pub entries_put : (m : ℕ) (rule : ℕ → ℕ → Type 0) (row : Row) (p t : ℕ) → Entries m rule row → rule t p → Entries m rule (put row p (Some t))
entries_put m rule row p t all new q u h e =
    elim (cases_eq q p) [
      | inl d ↦ subst (λ v. rule v q) (same_entry (put row p (Some t) q) t u (put_at row p (Some t) q d) e) (subst (λ i. rule t i) (sym d) new)
      | inr ne ↦ all q u h (sym (put_off row p (Some t) q ne) ∙ e)
    ]

pub entries_clear : (m : ℕ) (rule : ℕ → ℕ → Type 0) (row : Row) (p : ℕ) → Entries m rule row → Entries m rule (put row p None)
entries_clear m rule row p all q u h e =
    elim (cases_eq q p) [
      | inl d ↦ absurd (none_or_some (put row p None q) u (put_at row p None q d) e)
      | inr ne ↦ all q u h (sym (put_off row p None q ne) ∙ e)
    ]
