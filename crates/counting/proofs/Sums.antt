-- Laws of sums over the numbers below a bound.
use Rattle.std.proofs.Common.{◌≡◌, ℕ, zero, suc, ◌+◌, ◌<◌, ◌≤◌, sym, refl, ap, subst, inl, inr, add-zero, add-suc, add-one, arith}
use Rattle.std.proofs.lemmas.Bool.{cases_eq, cases_lt}
use Rattle.counting.specs.Sums.{sum_below}

pub sum_same : (k : ℕ) (f g : ℕ → ℕ) → ((i : ℕ) → i < k → f i ≡ g i) → sum_below k f ≡ sum_below k g
sum_same zero f g same = refl
sum_same (suc k) f g same = let rest : sum_below k f ≡ sum_below k g = sum_same k f g (λ i h. same i (omega arith)) in omega (arith, same k (omega arith))

pub sum_more : (k : ℕ) (f : ℕ → ℕ) → sum_below (k + 1) f ≡ sum_below k f + f k
sum_more k f = ap (λ n. sum_below n f) (add-one k)

pub sum_add : (k : ℕ) (f g : ℕ → ℕ) → sum_below k (λ i. f i + g i) ≡ sum_below k f + sum_below k g
sum_add zero f g = refl
sum_add (suc k) f g = let rest = sum_add k f g in omega arith

pub sum_le : (k : ℕ) (f g : ℕ → ℕ) → ((i : ℕ) → i < k → f i ≤ g i) → sum_below k f ≤ sum_below k g
sum_le zero f g below = omega arith
sum_le (suc k) f g below = let rest : sum_below k f ≤ sum_below k g = sum_le k f g (λ i h. below i (omega arith)) in omega (arith, below k (omega arith))

-- a sum of zeros
pub sum_zero : (k : ℕ) (f : ℕ → ℕ) → ((i : ℕ) → i < k → f i ≡ 0) → sum_below k f ≡ 0
sum_zero zero f none = refl
sum_zero (suc k) f none = let rest : sum_below k f ≡ 0 = sum_zero k f (λ i h. none i (omega arith)) in omega (arith, none k (omega arith))

-- a sum of numbers that are at most one
pub sum_le_bound : (k : ℕ) (f : ℕ → ℕ) → ((i : ℕ) → i < k → f i ≤ 1) → sum_below k f ≤ k
sum_le_bound zero f small = omega arith
sum_le_bound (suc k) f small = let rest : sum_below k f ≤ k = sum_le_bound k f (λ i h. small i (omega arith)) in omega (arith, small k (omega arith))

pub sum_swap : (a b : ℕ) (f : ℕ → ℕ → ℕ) → sum_below a (λ i. sum_below b (λ j. f i j)) ≡ sum_below b (λ j. sum_below a (λ i. f i j))
sum_swap zero b f = sym (sum_zero b (λ j. 0) (λ j h. refl))
sum_swap (suc a) b f = let rest = sum_swap a b f in omega (arith, sum_add b (λ j. sum_below a (λ i. f i j)) (λ j. f a j))

pub point_le_sum : (k : ℕ) (f : ℕ → ℕ) (i : ℕ) → i < k → f i ≤ sum_below k f
point_le_sum zero f i h = omega arith
point_le_sum (suc k) f i h =
    elim (cases_eq i k) [
      | inl e ↦ omega (arith, ap f e)
      | inr ne ↦ omega (arith, point_le_sum k f i (omega arith))
    ]

-- two sums whose terms differ at one place at most
pub sum_changed_at : (k : ℕ) (f g : ℕ → ℕ) (p : ℕ) → p < k → ((i : ℕ) → i < k → (i ≡ p → ⊥) → f i ≡ g i) → sum_below k f + g p ≡ sum_below k g + f p
sum_changed_at zero f g p h same = omega arith
sum_changed_at (suc k) f g p h same =
    elim (cases_eq p k) [
      | inl e ↦ omega (arith, ap f e, ap g e, sum_same k f g (λ i l. same i (omega arith) (λ d. omega arith)))
      | inr ne ↦ omega (arith, same k (omega arith) (λ d. ne (sym d)), sum_changed_at k f g p (omega arith) (λ i l. same i (omega arith)))
    ]

pub two_points_le_sum : (k : ℕ) (f : ℕ → ℕ) (i j : ℕ) → i < k → j < k → (i ≡ j → ⊥) → f i + f j ≤ sum_below k f
two_points_le_sum zero f i j hi hj apart = omega arith
two_points_le_sum (suc k) f i j hi hj apart = grind (arith, cases_eq i k, cases_eq j k, point_le_sum k f, two_points_le_sum k f)

pub positive_point : (k : ℕ) (f : ℕ → ℕ) → 0 < sum_below k f → (i : ℕ) × (i < k) × (0 < f i)
positive_point zero f h = absurd (omega arith)
positive_point (suc k) f h =
    elim (cases_eq (f k) 0) [
      | inl e ↦ let found = positive_point k f (omega arith) in (found.0, omega arith, found.2)
      | inr ne ↦ (k, omega arith, omega arith)
    ]

pub zero_point : (k : ℕ) (f : ℕ → ℕ) → sum_below k f < k → (i : ℕ) × (i < k) × (f i ≡ 0)
zero_point zero f h = absurd (omega arith)
zero_point (suc k) f h =
    elim (cases_eq (f k) 0) [
      | inl e ↦ (k, omega arith, e)
      | inr ne ↦ let found = zero_point k f (omega arith) in (found.0, omega arith, found.2)
    ]

-- numbers that are at most one, of which no two are above zero
pub sum_le_one : (k : ℕ) (f : ℕ → ℕ) → ((i : ℕ) → i < k → f i ≤ 1) → ((i j : ℕ) → i < k → j < k → 0 < f i → 0 < f j → i ≡ j) → sum_below k f ≤ 1
sum_le_one zero f small only = omega arith
sum_le_one (suc k) f small only =
    elim (cases_eq (f k) 0) [
      | inl e ↦ omega (arith, sum_le_one k f (λ i h. small i (omega arith)) (λ i j hi hj. only i j (omega arith) (omega arith)))
      | inr ne ↦ omega (
        arith,
        small k (omega arith),
        sum_zero k f (λ i h. elim (cases_eq (f i) 0) [
          | inl z ↦ z
          | inr nz ↦ absurd (omega (arith, only i k (omega arith) (omega arith) (omega arith) (omega arith)))
        ]),
      )
    ]

-- k numbers that are at most one, with a sum of k
pub sum_full : (k : ℕ) (f : ℕ → ℕ) → ((i : ℕ) → i < k → f i ≤ 1) → k ≤ sum_below k f → (i : ℕ) → i < k → f i ≡ 1
sum_full zero f small full i h = absurd (omega arith)
sum_full (suc k) f small full i h =
    let rest : sum_below k f ≤ k = sum_le_bound k f (λ j l. small j (omega arith)) in
    elim (cases_eq i k) [
      | inl e ↦ omega (arith, ap f e, small k (omega arith))
      | inr ne ↦ sum_full k f (λ j l. small j (omega arith)) (omega (arith, small k (omega arith))) i (omega arith)
    ]

pub sum_split : (a b : ℕ) (f : ℕ → ℕ) → sum_below (a + b) f ≡ sum_below a f + sum_below b (λ i. f (a + i))
sum_split a zero f = rw (add-zero a) (omega arith)
sum_split a (suc b) f = rw (add-suc a b) (let rest = sum_split a b f in omega arith)

-- a sum of more terms is no smaller
pub sum_mono : (j k : ℕ) (f : ℕ → ℕ) → j ≤ k → sum_below j f ≤ sum_below k f
sum_mono j zero f h = let e : j ≡ 0 = omega arith in subst (λ n. sum_below n f ≤ 0) (sym e) (omega arith)
sum_mono j (suc k) f h =
    elim (cases_lt j (suc k)) [
      | inl l ↦ let rest : sum_below j f ≤ sum_below k f = sum_mono j k f (omega arith) in omega arith
      | inr g ↦ let e : j ≡ suc k = omega arith in subst (λ n. sum_below n f ≤ sum_below (suc k) f) (sym e) (omega arith)
    ]
