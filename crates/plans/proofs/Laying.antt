-- A plan that gives each pair its ticks, and one more tick laid into it.
use Rattle.std.proofs.Common.{◌≡◌, ℕ, ◌+◌, ◌<◌, ◌≤◌, Some, None, refl, ap, ◌∙◌, inl, inr, arith}
use Rattle.std.proofs.lemmas.Bool.{cases_eq, cases_lt}
use Rattle.counting.specs.Sums.{sum_below}
use Rattle.plans.specs.Plans.{Plan}
use Rattle.counting.proofs.Sums.{sum_same, sum_swap, sum_changed_at, point_le_sum, zero_point}
use Rattle.plans.proofs.Rows.{Row, hit, used, put, single, put_at, put_off, hit_same, hit_other, none_if_unhit, used_put}
use Rattle.plans.proofs.Weaving.{Woven, Ready, busy, weave}

-- each task at one processor at most at each tick, and each pair with its ticks; a task that has none is never named
pub record Laid (m frame : ℕ) (ticks : ℕ → ℕ → ℕ) (plan : Plan) : Type 0 where
  pub once : (k u : ℕ) → k < frame → used m (plan k) u ≤ 1
  pub exact : (u q : ℕ) → q < m → sum_below frame (λ k. hit u (plan k q)) ≡ ticks u q

-- the ticks with one more for the pair of t and p
abbrev pub plus : (ℕ → ℕ → ℕ) → ℕ → ℕ → ℕ → ℕ → ℕ
plus ticks t p u q = ticks u q + hit u (single t p q)

pub laid_same : (m frame : ℕ) (a b : ℕ → ℕ → ℕ) (plan : Plan) → ((u q : ℕ) → q < m → a u q ≡ b u q) → Laid m frame a plan → Laid m frame b plan
laid_same m frame a b plan same laid = record { once = laid.once; exact = λ u q h. laid.exact u q h ∙ same u q h }

-- by counting the pairs of a task and its ticks in both orders
pub task_uses : (m frame : ℕ) (ticks : ℕ → ℕ → ℕ) (plan : Plan) → Laid m frame ticks plan → (u : ℕ) → sum_below frame (λ k. used m (plan k) u) ≡ sum_below m (λ q. ticks u q)
task_uses m frame ticks plan laid u = sum_swap frame m (λ k q. hit u (plan k q)) ∙ sum_same m (λ q. sum_below frame (λ k. hit u (plan k q))) (λ q. ticks u q) (λ q h. laid.exact u q h)

pub processor_uses : (n m frame : ℕ) (ticks : ℕ → ℕ → ℕ) (plan : Plan) → Laid m frame ticks plan → (q : ℕ) → q < m → sum_below frame (λ k. sum_below n (λ u. hit u (plan k q))) ≡ sum_below n (λ u. ticks u q)
processor_uses n m frame ticks plan laid q h = sum_swap frame n (λ k u. hit u (plan k q)) ∙ sum_same n (λ u. sum_below frame (λ k. hit u (plan k q))) (λ u. ticks u q) (λ u l. laid.exact u q h)

free_task_tick : (m frame : ℕ) (ticks : ℕ → ℕ → ℕ) (plan : Plan) → Laid m frame ticks plan → (t : ℕ) → sum_below m (λ q. ticks t q) < frame → (i : ℕ) × (i < frame) × (used m (plan i) t ≡ 0)
free_task_tick m frame ticks plan laid t spare = zero_point frame (λ k. used m (plan k) t) (omega (arith, task_uses m frame ticks plan laid t))

-- a processor that names none of the tasks below n, and no other
unnamed : (n m frame : ℕ) (ticks : ℕ → ℕ → ℕ) (plan : Plan) → Laid m frame ticks plan → ((u q : ℕ) → n ≤ u → ticks u q ≡ 0) → (p k : ℕ) → p < m → k < frame → sum_below n (λ u. hit u (plan k p)) ≡ 0 → plan k p ≡ None
unnamed n m frame ticks plan laid outside p k hp hk none = none_if_unhit (plan k p) (λ u. elim (cases_lt u n) [
  | inl low ↦ omega (arith, point_le_sum n (λ v. hit v (plan k p)) u low)
  | inr high ↦ omega (arith, point_le_sum frame (λ j. hit u (plan j p)) k hk, laid.exact u p hp, outside u p high)
])

free_processor_tick : (n m frame : ℕ) (ticks : ℕ → ℕ → ℕ) (plan : Plan) → Laid m frame ticks plan → ((u q : ℕ) → n ≤ u → ticks u q ≡ 0) → (p : ℕ) → p < m → sum_below n (λ u. ticks u p) < frame → (j : ℕ) × (j < frame) × (plan j p ≡ None)
free_processor_tick n m frame ticks plan laid outside p hp spare =
    let (j, hj, none) = zero_point frame (λ k. sum_below n (λ u. hit u (plan k p))) (omega (arith, processor_uses n m frame ticks plan laid p hp)) in
    (j, hj, unnamed n m frame ticks plan laid outside p j hp hj none)

-- a pair's ticks when the row of one tick is changed
pair_put : (frame : ℕ) (plan : Plan) (i : ℕ) (row : Row) (u q : ℕ) → i < frame → sum_below frame (λ k. hit u (put plan i row k q)) + hit u (plan i q) ≡ sum_below frame (λ k. hit u (plan k q)) + hit u (row q)
pair_put frame plan i row u q h =
    let changed = sum_changed_at frame (λ k. hit u (put plan i row k q)) (λ k. hit u (plan k q)) i h (λ k l ne. ap (λ (r : Row). hit u (r q)) (put_off plan i row k ne)) in
    omega (arith, ap (λ (r : Row). hit u (r q)) (put_at plan i row i refl))

once_put : (m frame : ℕ) (plan : Plan) (i : ℕ) (row : Row) → ((k u : ℕ) → k < frame → used m (plan k) u ≤ 1) → ((u : ℕ) → used m row u ≤ 1) → (k u : ℕ) → k < frame → used m (put plan i row k) u ≤ 1
once_put m frame plan i row once row_once k u h =
    elim (cases_eq k i) [
      | inl e ↦ omega (arith, ap (λ (r : Row). used m r u) (put_at plan i row k e), row_once u)
      | inr ne ↦ omega (arith, ap (λ (r : Row). used m r u) (put_off plan i row k ne), once k u h)
    ]

lay_at_one_tick : (m frame : ℕ) (ticks : ℕ → ℕ → ℕ) (plan : Plan) → Laid m frame ticks plan → (t p i : ℕ) → p < m → i < frame → used m (plan i) t ≡ 0 → plan i p ≡ None → Laid m frame (plus ticks t p) (put plan i (put (plan i) p (Some t)))
lay_at_one_tick m frame ticks plan laid t p i hp hi free none =
    record {
      once = once_put m frame plan i (put (plan i) p (Some t)) laid.once (λ u. grind (arith, used_put m (plan i) p (Some t) u hp, cases_eq t u, hit_same u t, hit_other u t, laid.once i u hi));
      exact = λ u q h. grind (arith, pair_put frame plan i (put (plan i) p (Some t)) u q hi, laid.exact u q h, cases_eq q p, put_at, put_off);
    }

lay_at_two_ticks : (m frame : ℕ) (ticks : ℕ → ℕ → ℕ) (plan : Plan) → Laid m frame ticks plan → (t p i j : ℕ) (first second : Row) → i < frame → j < frame → (i ≡ j → ⊥) → used m (plan i) t ≡ 0 →
    Woven m (plan i) (plan j) t p first second → Laid m frame (plus ticks t p) (put (put plan j second) i first)
lay_at_two_ticks m frame ticks plan laid t p i j first second hi hj ne free w =
    record {
      once = once_put m frame (put plan j second) i first (once_put m frame plan j second laid.once w.apart) (λ u. grind (arith, w.within u, cases_eq t u, hit_same u t, hit_other u t, laid.once i u hi));
      exact = λ u q h. omega (arith, pair_put frame (put plan j second) i first u q hi, pair_put frame plan j second u q hj, laid.exact u q h, w.pairs u q h, ap (λ r. hit u (r q)) (put_off plan j second i ne));
    }

pub lay : (n m frame : ℕ) (ticks : ℕ → ℕ → ℕ) (plan : Plan) → Laid m frame ticks plan → ((u q : ℕ) → n ≤ u → ticks u q ≡ 0) → (t p : ℕ) → p < m → sum_below m (λ q. ticks t q) < frame → sum_below n (λ u. ticks u p) < frame →
    (plan' : Plan) × Laid m frame (plus ticks t p) plan'
lay n m frame ticks plan laid outside t p hp spare_task spare_processor =
    let (i, hi, free) = free_task_tick m frame ticks plan laid t spare_task in
    let (j, hj, none) = free_processor_tick n m frame ticks plan laid outside p hp spare_processor in
    elim (cases_eq i j) [
      | inl e ↦ (put plan i (put (plan i) p (Some t)), lay_at_one_tick m frame ticks plan laid t p i hp hi free (ap (λ k. plan k p) e ∙ none))
      | inr ne ↦
          let ready : Ready m (plan i) (plan j) t p = record { place = hp; first_once = λ u. laid.once i u hi; second_once = λ u. laid.once j u hj; task_free = free; processor_free = none } in
          let (first, second, w) = weave m (busy m (plan i)) (plan i) (plan j) t p ready (omega arith) in
          (put (put plan j second) i first, lay_at_two_ticks m frame ticks plan laid t p i j first second hi hj ne free w)
    ]
