-- The union of a matching of the tasks and one of the processors, both by processor.
use Rattle.std.specs.Prelude.{◌≡◌, ℕ, ◌<◌, Bool, true, false, List, length, Some, None, Option, ◌≢◌, slice_index_or}
use Rattle.counting.specs.Sums.{count_below}
use Rattle.graphs.specs.Graphs.{Row, at}
use Rattle.pairings.specs.declared.walks.Side.{Side}
use Rattle.pairings.specs.declared.walks.Side.TheVariants.{Task, Processor}

abbrev pub Sides : Type 0
Sides = List (Option Side)

abbrev pub side_at : Sides → ℕ → Option Side
side_at sides p = slice_index_or sides p None

-- the processor's own matching is kept
abbrev pub Own : Sides → ℕ → Type 0
Own sides p = side_at sides p ≡ Some Processor

abbrev pub differs : Side → Option Side → Bool
differs s None = true
differs Task (Some Task) = false
differs Task (Some Processor) = true
differs Processor (Some Task) = true
differs Processor (Some Processor) = false

-- how many of n processors have another side
abbrev pub others : ℕ → Side → Sides → ℕ
others n s sides = count_below n (λ p. differs s (side_at sides p))

-- the entry that is kept
abbrev pub kept : Option Side → Option ℕ → Option ℕ → Option ℕ
kept None task own = task
kept (Some Task) task own = task
kept (Some Processor) task own = own

-- the processors' matching by processor and the tasks' by task: no two with one partner, tasks below m and processors below n
pub record Joint (m n : ℕ) (own holder : Row) : Type 0 where
  pub apart_own : (p q t : ℕ) → at own p ≡ Some t → at own q ≡ Some t → p ≡ q
  pub apart_holder : (s t p : ℕ) → at holder s ≡ Some p → at holder t ≡ Some p → s ≡ t
  pub near_task : (p t : ℕ) → at own p ≡ Some t → t < m
  pub near_holder : (t p : ℕ) → at holder t ≡ Some p → p < n

-- q is the next processor of the walk: an own edge leads from p to a task, and the task matching on to q
abbrev pub Leads : Row → Row → ℕ → ℕ → Type 0
Leads own holder p q = (t : ℕ) × (at own p ≡ Some t) × (at holder t ≡ Some q)

-- of n processors, those that keep their own matching are closed under the union's edges
pub record Shut (n : ℕ) (own holder : Row) (sides : Sides) : Type 0 where
  pub wide : length sides ≡ n
  pub back : (q t : ℕ) → Own sides q → at holder t ≡ Some q → (r : ℕ) × (at own r ≡ Some t) × Own sides r
  pub on : (q r : ℕ) → Own sides q → Leads own holder q r → Own sides r

-- the same, but for the way on from p, where the walk stands
pub record Walked (n : ℕ) (own holder : Row) (sides : Sides) (s : Side) (p : ℕ) : Type 0 where
  pub wide : length sides ≡ n
  pub near : p < n
  pub back : (q t : ℕ) → Own sides q → at holder t ≡ Some q → (r : ℕ) × (at own r ≡ Some t) × Own sides r
  pub on : (q r : ℕ) → Own sides q → (q ≢ p) → Leads own holder q r → Own sides r
  pub here : s ≡ Processor → Own sides p
  pub not_here : s ≡ Task → Own sides p → ⊥

-- what kept its own matching still does
abbrev pub Grows : Sides → Sides → Type 0
Grows before after = (q : ℕ) → Own before q → Own after q

-- each processor below k without an edge of the task matching keeps its own
abbrev pub EndsOwn : Row → Sides → ℕ → Type 0
EndsOwn tasks sides k = (p : ℕ) → p < k → at tasks p ≡ None → Own sides p
