-- Whether a row may stand in a slot.
use Rattle.std.specs.Prelude.{ℕ, zero, suc, Bool, true, false, not, ◌&&◌, length, Some, None, Option, ◌==◌, nat_lt}
use Rattle.counting.specs.Sums.{any_below}
use Rattle.graphs.specs.Graphs.{Row, at}

-- whether every number below k passes the test
abbrev pub all_below : ℕ → (ℕ → Bool) → Bool
all_below zero test = true
all_below (suc k) test = test k && all_below k test

abbrev pub names : Option ℕ → ℕ → Bool
names None t = false
names (Some a) t = a == t

-- whether a processor below p has task t
abbrev pub taken : Row → ℕ → ℕ → Bool
taken row p t = any_below p (λ q. names (at row q) t)

-- an entry is idle, or a task below n, at a processor below m, that no lower processor has
abbrev pub entry_fits : ℕ → ℕ → Row → ℕ → Option ℕ → Bool
entry_fits n m row p None = true
entry_fits n m row p (Some t) = nat_lt p m && nat_lt t n && not (taken row p t)

abbrev pub row_fits : ℕ → ℕ → Row → Bool
row_fits n m row = all_below (length row) (λ p. entry_fits n m row p (at row p))
