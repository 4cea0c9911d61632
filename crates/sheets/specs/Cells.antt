-- Lines of ticks, and what writing to them leaves.
use Rattle.std.specs.Prelude.{ℕ, cond, ◌&&◌, List, [], ◌==◌, slice_index, slice_index_or}

-- the ticks of processor p in line t
abbrev pub cell : List (List ℕ) → ℕ → ℕ → ℕ
cell rows t p = slice_index (slice_index_or rows t []) p

-- a table without ticks
abbrev pub nothing : ℕ → ℕ → ℕ
nothing _ _ = 0

-- x for task t on processor p, and the other pairs as they were
abbrev pub written : (ℕ → ℕ → ℕ) → ℕ → ℕ → ℕ → ℕ → ℕ → ℕ
written f t p x a b = cond (a == t && b == p) x (f a b)

-- nothing for task t, and the other tasks as they were
abbrev pub cleared : (ℕ → ℕ → ℕ) → ℕ → ℕ → ℕ → ℕ
cleared f t a b = cond (a == t) 0 (f a b)
