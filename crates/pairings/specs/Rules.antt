-- What a pairing rule undertakes.
use Rattle.std.specs.Prelude.{◌≡◌, Bool, true, false, Some, None, Option}
use Rattle.graphs.specs.Graphs.{Shape, Row}
use Rattle.graphs.specs.Search.{flag}
use Rattle.graphs.specs.Covers.{Marking, Cover, all_idle}
use Rattle.pairings.specs.declared.marks.Marks.{Marks}
use Rattle.pairings.specs.declared.pairing.Pairing.{Pairing}

abbrev pub marking : Marks → Marking
marking m = record { urgent = flag m.urgent; full = flag m.full }

-- the rows that a rule admits for a graph, its marks and the row before
abbrev pub Rule : Type 1
Rule = Shape → Marking → Row → Row → Type 0

-- it admits covers only
abbrev pub Covering : Rule → Type 0
Covering admits = (g : Shape) (marks : Marking) (before row : Row) → admits g marks before row → Cover g marks row

-- a row that is admitted, or none where there is no cover
abbrev pub Chooses : Rule → Shape → Marking → Row → Option Pairing → Type 0
Chooses admits g marks before (Some pairing) = admits g marks before pairing.row
Chooses admits g marks before None = (other : Row) → Cover g marks other → ⊥

-- yes with a row that is admitted, or no with an idle row where there is no cover
pub record Answers (admits : Rule) (g : Shape) (marks : Marking) (before : Row) (yes : Bool) (row : Row) : Type 0 where
  pub admitted : yes ≡ true → admits g marks before row
  pub refused : yes ≡ false → row ≡ all_idle
  pub none : yes ≡ false → (other : Row) → Cover g marks other → ⊥
