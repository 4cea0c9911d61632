-- A test on the numbers below a bound: a number that passes, or none.
use Rattle.std.proofs.Common.{◌≡◌, ℕ, zero, suc, ◌<◌, ◌≤◌, Bool, true, false, cond, T, ◌⊎◌, sym, refl, ap, ◌∙◌, inl, inr, arith}
use Rattle.std.proofs.lemmas.Bool.{cases_eq, cases_Bool, false≢true, or_cases, or_left, or_right}
use Rattle.counting.specs.Sums.{sum_below, count_below}
use Rattle.counting.specs.Sums.{any_below}
use Rattle.counting.proofs.Sums.{sum_le, sum_swap}

pub test_from_T : (b : Bool) → T b → b ≡ true
test_from_T true h = refl
test_from_T false h = absurd h

pub T_from_test : (b : Bool) → b ≡ true → T b
T_from_test true e = tt
T_from_test false e = absurd (false≢true e)

pub find_below : (k : ℕ) (test : ℕ → Bool) → ((i : ℕ) × (i < k) × (test i ≡ true)) ⊎ ((i : ℕ) → i < k → test i ≡ false)
find_below zero test = inr (λ i h. absurd (omega arith))
find_below (suc k) test =
    elim (cases_Bool (test k)) [
      | inl yes' ↦ inl (k, omega arith, yes')
      | inr no' ↦ elim (find_below k test) [
        | inl found ↦ inl (found.0, omega arith, found.2)
        | inr none ↦ inr (λ i h. elim (cases_eq i k) [ inl e ↦ ap test e ∙ no' | inr ne ↦ none i (omega arith) ])
      ]
    ]

pub any_from : (k : ℕ) (test : ℕ → Bool) (i : ℕ) → i < k → test i ≡ true → any_below k test ≡ true
any_from zero test i h e = absurd (omega arith)
any_from (suc k) test i h e =
    elim (cases_eq i k) [
      | inl d ↦ or_left (test k) (any_below k test) (ap test (sym d) ∙ e)
      | inr ne ↦ or_right (test k) (any_below k test) (any_from k test i (omega arith) e)
    ]

pub some_of : (k : ℕ) (test : ℕ → Bool) → any_below k test ≡ true → (i : ℕ) × (i < k) × (test i ≡ true)
some_of zero test e = absurd (false≢true e)
some_of (suc k) test e =
    elim (or_cases (test k) (any_below k test) e) [
      | inl here ↦ (k, omega arith, here)
      | inr below ↦ let found = some_of k test below in (found.0, omega arith, found.2)
    ]

-- a test as a number
abbrev pub bit : Bool → ℕ
bit b = cond b 1 0

pub bit_le : (b : Bool) → bit b ≤ 1
bit_le true = omega arith
bit_le false = omega arith

pub bit_true : (b : Bool) → b ≡ true → bit b ≡ 1
bit_true b e = ap bit e

pub bit_false : (b : Bool) → b ≡ false → bit b ≡ 0
bit_false b e = ap bit e

-- each member has a pair, and the pairs of members at a place are at most one, and none where the place is no neighbour
pub count_by_pairs : (k l : ℕ) (members neighbours : ℕ → Bool) (pair : ℕ → ℕ → ℕ) →
    ((a : ℕ) → a < k → bit (members a) ≤ sum_below l (λ b. pair a b)) →
    ((b : ℕ) → b < l → sum_below k (λ a. pair a b) ≤ bit (neighbours b)) →
    count_below k members ≤ count_below l neighbours
count_by_pairs k l members neighbours pair each fits =
    omega (
      arith,
      sum_le k (λ a. bit (members a)) (λ a. sum_below l (λ b. pair a b)) each,
      sum_swap k l pair,
      sum_le l (λ b. sum_below k (λ a. pair a b)) (λ b. bit (neighbours b)) fits,
    )

pub cond_positive : (b : Bool) (x : ℕ) → 0 < cond b x 0 → (b ≡ true) × (0 < x)
cond_positive true x h = (refl, h)
cond_positive false x h = absurd (omega arith)

pub cond_le : (b : Bool) (x : ℕ) → cond b x 0 ≤ x
cond_le true x = omega arith
cond_le false x = omega arith
