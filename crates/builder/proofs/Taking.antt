-- The lines after ticks are taken from them, and the load that is left.
use Rattle.std.proofs.Common.{◌≡◌, ℕ, ◌-◌, List, inl, inr, arith}
use mathlib.Core.Path.{fun_ext}
use Rattle.graphs.specs.Graphs.{Row, at}
use Rattle.graphs.specs.Covers.{Cover}
use Rattle.sheets.specs.Cells.{cell}
use Rattle.plans.specs.Remaining.{graph, marks}
use Rattle.builder.specs.Building.{laid}
use Rattle.builder.specs.Reading.{load_from}
use Rattle.builder.specs.Lasting.{Taken}
use Rattle.builder.proofs.Steps.{cases_entry, laid_at, laid_off}

-- what is left when the ticks of a slot are taken
module _ (n m frame : ℕ) (a b : List (List ℕ)) (row : Row) (d : ℕ) (taken : Taken a b row 16 d) (cover : Cover (graph (load_from n m frame a)) (marks (load_from n m frame a)) row) where
  laid_cell : (t p : ℕ) → cell b t p ≡ (laid (load_from n m frame a) row d).ticks t p
  laid_cell t p =
      elim (cases_entry (at row p) t) [
        | inl e ↦ omega (arith, taken.here t p (omega (arith, (cover.edges p t e).1, cover.few)) e, laid_at (load_from n m frame a) row d t p e)
        | inr ne ↦ omega (arith, taken.off t p (λ l. ne), laid_off (load_from n m frame a) row d t p ne)
      ]

  pub laid_lines : load_from n m (frame - d) b ≡ laid (load_from n m frame a) row d
  laid_lines = λ i. record { tasks = n; processors = m; frame = frame - d; ticks = fun_ext (λ t. fun_ext (λ p. laid_cell t p)) i }
