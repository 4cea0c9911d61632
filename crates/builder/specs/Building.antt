-- What it is for a list of slots to be built by a rule.
use Rattle.std.specs.Prelude.{◌≡◌, ℕ, ◌+◌, ◌-◌, ◌<◌, ◌≤◌, cond, List, [], ◌∷◌, Some, None, ◌≢◌, nat_lt}
use Rattle.graphs.specs.Graphs.{Row, at}
use Rattle.graphs.specs.Covers.{Cover}
use Rattle.sheets.specs.Loads.{Load, task_total, processor_total}
use Rattle.plans.specs.Plans.{Plan, is_task}
use Rattle.plans.specs.Remaining.{graph, marks}
use Rattle.pairings.specs.Rules.{Rule}
use Rattle.builder.specs.declared.slots.Slot.{Slot}

-- the task that a list of slots names at a tick and a processor
abbrev pub read : List Slot → Plan
read [] k p = None
read (slot ∷ slots) k p = cond (nat_lt k slot.ticks) (at slot.row p) (read slots (k - slot.ticks) p)

-- a time d that a row may last: within each pair's ticks, and within the slack of each unpaired line
pub record MayLast (left : Load) (row : Row) (d : ℕ) : Type 0 where
  pub pairs : (p t : ℕ) → p < left.processors → at row p ≡ Some t → d ≤ left.ticks t p
  pub tasks : (t : ℕ) → t < left.tasks → ((p : ℕ) → p < left.processors → at row p ≢ Some t) → d + task_total left t ≤ left.frame
  pub processors : (p : ℕ) → p < left.processors → at row p ≡ None → d + processor_total left p ≤ left.frame

-- no longer time will do
pub record Longest (left : Load) (row : Row) (d : ℕ) : Type 0 where
  pub may : MayLast left row d
  pub most : (e : ℕ) → MayLast left row e → e ≤ d

-- what is left after a row was laid for d ticks
abbrev pub laid : Load → Row → ℕ → Load
laid left row d = record {
  tasks = left.tasks;
  processors = left.processors;
  frame = left.frame - d;
  ticks = λ t p. cond (is_task t (at row p)) (left.ticks t p - d) (left.ticks t p);
}

-- a slot that may be laid next: admitted after the row before, and as long as it may last
pub record Next (admits : Rule) (left : Load) (before : Row) (slot : Slot) : Type 0 where
  pub more : 0 < left.frame
  pub admitted : admits (graph left) (marks left) before slot.row
  pub cover : Cover (graph left) (marks left) slot.row
  pub longest : Longest left slot.row slot.ticks

-- one slot after another until nothing is left
abbrev pub Built : Rule → Load → Row → List Slot → Type 0
Built admits left before [] = left.frame ≡ 0
Built admits left before (slot ∷ slots) = Next admits left before slot × Built admits (laid left slot.row slot.ticks) slot.row slots
