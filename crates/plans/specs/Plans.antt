-- Unit plans.
use Rattle.std.specs.Prelude.{◌≡◌, ℕ, ◌<◌, ◌≤◌, Bool, false, Some, None, Option, ◌==◌}
use Rattle.counting.specs.Sums.{count_below}
use Rattle.sheets.specs.Loads.{Load, task_total, processor_total}

-- for each tick and processor, a task or nobody
abbrev pub Plan : Type 0
Plan = ℕ → ℕ → Option ℕ

abbrev pub is_task : ℕ → Option ℕ → Bool
is_task t None = false
is_task t (Some a) = a == t

pub record UnitPlan (s : Load) (plan : Plan) : Type 0 where
  pub names : (k p t : ℕ) → k < s.frame → p < s.processors → plan k p ≡ Some t → t < s.tasks
  pub apart : (k p q t : ℕ) → k < s.frame → p < s.processors → q < s.processors → plan k p ≡ Some t → plan k q ≡ Some t → p ≡ q
  pub exact : (t p : ℕ) → t < s.tasks → p < s.processors → count_below s.frame (λ k. is_task t (plan k p)) ≡ s.ticks t p

abbrev pub Plannable : Load → Type 0
Plannable s = (plan : Plan) × UnitPlan s plan

-- every line of the load fits the frame
pub record Within (s : Load) : Type 0 where
  pub tasks : (t : ℕ) → t < s.tasks → task_total s t ≤ s.frame
  pub processors : (p : ℕ) → p < s.processors → processor_total s p ≤ s.frame

-- a load can be planned exactly when every line fits the frame
abbrev pub PlansStand : Type 0
PlansStand = (s : Load) → (Within s → Plannable s) × (Plannable s → Within s)
