-- Sums, counts and firsts over the numbers below a bound.
use Rattle.std.specs.Prelude.{ℕ, zero, suc, ◌+◌, Bool, false, cond, ◌||◌}

-- f 0 + .. + f (k - 1)
abbrev pub sum_below : ℕ → (ℕ → ℕ) → ℕ
sum_below zero f = 0
sum_below (suc k) f = sum_below k f + f k

-- how many numbers below k pass the test
abbrev pub count_below : ℕ → (ℕ → Bool) → ℕ
count_below k test = sum_below k (λ i. cond (test i) 1 0)

-- whether some number below k passes the test
abbrev pub any_below : ℕ → (ℕ → Bool) → Bool
any_below zero test = false
any_below (suc k) test = test k || any_below k test
