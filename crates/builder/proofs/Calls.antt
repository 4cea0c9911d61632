-- What calls at each place of a list or a range give.
use Rattle.std.proofs.Common.{◌≡◌, ℕ, zero, suc, ◌+◌, ◌-◌, ◌*◌, ◌<◌, ◌≤◌, cond, ltb, min, List, [], length, get_or, take, map, sum_by, count_by, MatchOption, None, Some, Option, refl, sym, ap, ◌∙◌, inl, inr, add-one, zero-add, arith}
use Rattle.std.proofs.lemmas.Bool.{cases_eq, cases_lt}
use Rattle.std.proofs.lemmas.Bool.Decides.{nat_tests}
use Rattle.std.proofs.lemmas.List.{get_or_past, take_all}
use Rattle.std.proofs.lemmas.List.Sums.{sum_by_more}
use Rattle.std.proofs.lemmas.List.FromFn.{get_or-range_with_len, length-range_with_len}
use Rattle.std.specs.List.{fold, range_with_len, AllWithin, HoldsAt}
use native.Mathlib.Nat.{min-le_left, min-le_right}
use Rattle.counting.specs.Sums.{sum_below}
use Rattle.counting.proofs.Sums.{sum_same, sum_zero, sum_split, sum_le_bound}
use Rattle.sheets.specs.Cells.{cell}
use Rattle.sheets.specs.Loads.{Load, task_total}
use Rattle.builder.specs.Lines.{TaskOver}

-- the first line over the frame, found in the range of the lines
pub first_in_range : (s : Load) (found : Option ℕ) →
    MatchOption found (AllWithin (λ t. task_total s t ≤ s.frame) (range_with_len 0 s.tasks) 0 (length (range_with_len 0 s.tasks))) (λ x. (s.frame < task_total s x) × (i : ℕ) × (i < length (range_with_len 0 s.tasks)) × HoldsAt (λ y. y ≡ x) (range_with_len 0 s.tasks) i × AllWithin (λ t. task_total s t ≤ s.frame) (range_with_len 0 s.tasks) 0 i) →
    TaskOver s found
first_in_range s None all = λ t h. omega (arith, all t 0 (omega arith) (omega (arith, length-range_with_len 0 s.tasks)), ap (task_total s) (get_or-range_with_len 0 s.tasks t 0 h), ap (task_total s) (zero-add t))
first_in_range s (Some x) (passes, i, low, is, before) =
    let long = length-range_with_len 0 s.tasks in
    let here : i ≡ x = omega (arith, get_or-range_with_len 0 s.tasks i 0 (omega arith), is 0) in
    (omega arith, passes, λ u h. omega (arith, before u 0 (omega arith) (omega arith), ap (task_total s) (get_or-range_with_len 0 s.tasks u 0 (omega arith)), ap (task_total s) (zero-add u)))

-- the least of a number and those that a function gives at a range
module _ (h : ℕ → ℕ) where
  abbrev pub least : ℕ → ℕ → ℕ → ℕ
  least a k n = fold min a (map h (range_with_len k n))

  pub least_first : (a k n : ℕ) → least a k n ≤ a
  least_first a k zero = omega arith
  least_first a k (suc n) = omega (arith, least_first (min a (h k)) (k + 1) n, min-le_left a (h k))

  pub least_each : (a k n i : ℕ) → k ≤ i → i < k + n → least a k n ≤ h i
  least_each a k zero i low high = absurd (omega arith)
  least_each a k (suc n) i low high =
      elim (cases_eq i k) [
        | inl e ↦ omega (arith, least_first (min a (h k)) (k + 1) n, min-le_right a (h k), ap h e)
        | inr ne ↦ least_each (min a (h k)) (k + 1) n i (omega arith) (omega arith)
      ]

  pub least_most : (e a k n : ℕ) → e ≤ a → ((i : ℕ) → k ≤ i → i < k + n → e ≤ h i) → e ≤ least a k n
  least_most e a k zero first each = first
  least_most e a k (suc n) first each = least_most e (min a (h k)) (k + 1) n (let here : e ≤ h k = each k (omega arith) (omega arith) in omega arith) (λ i low high. each i (omega arith) (omega arith))

-- sums over a list, and sums that end where nothing more comes
sum_front : {X : Type 0} (f : X → ℕ) (d : X) (xs : List X) (k : ℕ) → k ≤ length xs → sum_by f (take k xs) ≡ sum_below k (λ i. f (get_or xs i d))
sum_front f d xs zero h = refl
sum_front f d xs (suc k) h = omega (arith, sum_by_more f xs k d (omega arith), ap (λ n. sum_by f (take n xs)) (add-one k), sum_front f d xs k (omega arith))

sum_list : {X : Type 0} (f : X → ℕ) (d : X) (xs : List X) → sum_by f xs ≡ sum_below (length xs) (λ i. f (get_or xs i d))
sum_list f d xs = sym (ap (sum_by f) (take_all (length xs) xs (omega arith))) ∙ sum_front f d xs (length xs) (omega arith)

pub sum_range : (f : ℕ → ℕ) (n m : ℕ) → n ≡ m → sum_by f (range_with_len 0 n) ≡ sum_below m f
sum_range f n m same =
    sum_list f 0 (range_with_len 0 n) ∙ ap (λ k. sum_below k (λ i. f (get_or (range_with_len 0 n) i 0))) (length-range_with_len 0 n ∙ same) ∙
    sum_same m (λ i. f (get_or (range_with_len 0 n) i 0)) f (λ i h. ap f (get_or-range_with_len 0 n i 0 (omega arith) ∙ omega arith))

sum_past : (f : ℕ → ℕ) (k m : ℕ) → k ≤ m → ((i : ℕ) → k ≤ i → f i ≡ 0) → sum_below m f ≡ sum_below k f
sum_past f k m h none = omega (arith, ap (λ n. sum_below n f) (let e : m ≡ k + (m - k) = omega arith in e), sum_split k (m - k) f, sum_zero (m - k) (λ i. f (k + i)) (λ i l. none (k + i) (omega arith)))

-- the sum over a list's front, as far as it goes
front_sum : {X : Type 0} (f : X → ℕ) (d : X) (xs : List X) (k : ℕ) → f d ≡ 0 → sum_by f (take k xs) ≡ sum_below k (λ i. f (get_or xs i d))
front_sum f d xs k none =
    elim (cases_lt (length xs) k) [
      | inl h ↦
          ap (sum_by f) (take_all k xs (omega arith)) ∙ sum_list f d xs ∙
          sym (sum_past (λ i. f (get_or xs i d)) (length xs) k (omega arith) (λ i l. ap f (get_or_past xs i d l) ∙ none))
      | inr h ↦ sum_front f d xs k (omega arith)
    ]

-- the pairs with ticks
module _ (n m : ℕ) (lines : List (List ℕ)) where
  some_small : (x : ℕ) → cond {A = ℕ} (ltb 0 x) 1 0 ≤ 1
  some_small x = grind (arith, nat_tests)

  one_line : (line : List ℕ) → count_by (λ x. ltb 0 x) (take m line) ≡ sum_below m (λ p. cond (ltb 0 (get_or line p 0)) 1 0)
  one_line line = front_sum (λ x. cond (ltb 0 x) 1 0) 0 line m refl

  no_line : count_by (λ x. ltb 0 x) (take m []) ≡ 0
  no_line = one_line [] ∙ sum_zero m (λ p. cond (ltb 0 (get_or [] p 0)) 1 0) (λ p h. refl)

  pub loads_counted : sum_by (λ line. count_by (λ x. ltb 0 x) (take m line)) (take n lines) ≡ sum_below n (λ t. sum_below m (λ p. cond (ltb 0 (cell lines t p)) 1 0))
  loads_counted =
      front_sum (λ line. count_by (λ x. ltb 0 x) (take m line)) [] lines n no_line ∙
      sum_same n (λ t. count_by (λ x. ltb 0 x) (take m (get_or lines t []))) (λ t. sum_below m (λ p. cond (ltb 0 (cell lines t p)) 1 0)) (λ t h. one_line (get_or lines t []))

  loads_most : (k : ℕ) (f : ℕ → ℕ) → ((i : ℕ) → f i ≤ 16) → sum_below k f ≤ k * 16
  loads_most zero f small = omega arith
  loads_most (suc k) f small = omega (arith, loads_most k f small, small k)

  pub loads_few : n ≤ 64 → m ≤ 16 → sum_by (λ line. count_by (λ x. ltb 0 x) (take m line)) (take n lines) ≤ 1024
  loads_few tasks processors =
      omega (
        arith,
        loads_counted,
        loads_most n (λ t. sum_below m (λ p. cond (ltb 0 (cell lines t p)) 1 0))
            (λ t. omega (arith, sum_le_bound m (λ p. cond (ltb 0 (cell lines t p)) 1 0) (λ p h. some_small (cell lines t p)))),
      )
