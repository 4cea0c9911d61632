-- What a sheet says: its tasks, processors and frame, and the ticks of each pair.
use Rattle.std.specs.Prelude.{ℕ, ◌+◌, cond, nat_lt}
use Rattle.counting.specs.Sums.{sum_below}

pub record Load : Type 0 where
  pub tasks : ℕ
  pub processors : ℕ
  pub frame : ℕ
  pub ticks : ℕ → ℕ → ℕ

abbrev pub task_total : Load → ℕ → ℕ
task_total s t = sum_below s.processors (λ p. s.ticks t p)

abbrev pub processor_total : Load → ℕ → ℕ
processor_total s p = sum_below s.tasks (λ t. s.ticks t p)

-- how many pairs have ticks
abbrev pub loads : Load → ℕ
loads s = sum_below s.tasks (λ t. sum_below s.processors (λ p. cond (nat_lt 0 (s.ticks t p)) 1 0))

-- the room that a build needs
abbrev pub places_needed : Load → ℕ
places_needed s = loads s + s.tasks + s.processors
