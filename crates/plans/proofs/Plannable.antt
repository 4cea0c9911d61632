-- A load can be planned exactly when every line fits the frame.
use Rattle.std.proofs.Common.{◌≡◌, ℕ, zero, suc, ◌+◌, ◌-◌, ◌<◌, ◌≤◌, cond, ltb, Some, None, Option, refl, ◌∙◌, inl, inr, arith}
use Rattle.std.proofs.lemmas.Bool.{cases_eq, cases_lt, lt-ltb, le-ltb, cond-true, cond-false}
use Rattle.counting.specs.Sums.{sum_below}
use Rattle.sheets.specs.Loads.{Load, task_total, processor_total}
use Rattle.plans.specs.Plans.{Plan, UnitPlan, Plannable, Within, PlansStand}
use Rattle.counting.proofs.Sums.{sum_same, sum_add, sum_le, sum_zero, sum_swap, point_le_sum, positive_point, sum_le_bound, sum_le_one}
use Rattle.plans.proofs.Rows.{hit, used, single, nobody, put_at, put_off, hit_at, hit_same, hit_other, hit_of, hit_le_one, hit_named, used_single, same_place, once_if_apart}
use Rattle.plans.proofs.Laying.{Laid, plus, laid_same, lay}

-- ticks of tasks below n whose lines below m fit the frame
record Fits (n m frame : ℕ) (ticks : ℕ → ℕ → ℕ) : Type 0 where
  outside : (u q : ℕ) → n ≤ u → ticks u q ≡ 0
  rows : (u : ℕ) → u < n → sum_below m (λ q. ticks u q) ≤ frame
  columns : (q : ℕ) → q < m → sum_below n (λ u. ticks u q) ≤ frame

abbrev total : ℕ → ℕ → (ℕ → ℕ → ℕ) → ℕ
total n m ticks = sum_below n (λ u. sum_below m (λ q. ticks u q))

-- the ticks with one fewer for the pair of t and p
abbrev minus : (ℕ → ℕ → ℕ) → ℕ → ℕ → ℕ → ℕ → ℕ
minus ticks t p u q = ticks u q - hit u (single t p q)

plus_minus : (ticks : ℕ → ℕ → ℕ) (t p : ℕ) → 0 < ticks t p → (u q : ℕ) → plus (minus ticks t p) t p u q ≡ ticks u q
plus_minus ticks t p some u q = grind (arith, cases_eq q p, cases_eq t u, put_at, put_off, hit_same u t, hit_other u t)

-- the lines of the pair have one tick fewer
minus_row : (m : ℕ) (ticks : ℕ → ℕ → ℕ) (t p : ℕ) → p < m → 0 < ticks t p → (u : ℕ) → sum_below m (λ q. minus ticks t p u q) + hit u (Some t) ≡ sum_below m (λ q. ticks u q)
minus_row m ticks t p hp some u =
    let same = sum_same m (λ q. plus (minus ticks t p) t p u q) (λ q. ticks u q) (λ q h. plus_minus ticks t p some u q) in
    omega (arith, sum_add m (λ q. minus ticks t p u q) (λ q. hit u (single t p q)), used_single m t p u hp)

minus_column : (n : ℕ) (ticks : ℕ → ℕ → ℕ) (t p : ℕ) → t < n → 0 < ticks t p → sum_below n (λ u. minus ticks t p u p) < sum_below n (λ u. ticks u p)
minus_column n ticks t p ht some =
    let same = sum_same n (λ u. plus (minus ticks t p) t p u p) (λ u. ticks u p) (λ u h. plus_minus ticks t p some u p) in
    omega (arith, sum_add n (λ u. minus ticks t p u p) (λ u. hit u (single t p p)), point_le_sum n (λ u. hit u (single t p p)) t ht, hit_at t nobody p (Some t) p refl, hit_same t t refl)

minus_total : (n m : ℕ) (ticks : ℕ → ℕ → ℕ) (t p : ℕ) → t < n → p < m → 0 < ticks t p → total n m (minus ticks t p) < total n m ticks
minus_total n m ticks t p ht hp some =
    let same = sum_same n (λ u. sum_below m (λ q. minus ticks t p u q) + hit u (Some t)) (λ u. sum_below m (λ q. ticks u q)) (λ u h. minus_row m ticks t p hp some u) in
    omega (arith, sum_add n (λ u. sum_below m (λ q. minus ticks t p u q)) (λ u. hit u (Some t)), point_le_sum n (λ u. hit u (Some t)) t ht, hit_same t t refl)

minus_fits : (n m frame : ℕ) (ticks : ℕ → ℕ → ℕ) (t p : ℕ) → Fits n m frame ticks → Fits n m frame (minus ticks t p)
minus_fits n m frame ticks t p fits =
    record {
      outside = λ u q h. omega (arith, fits.outside u q h);
      rows = λ u h. omega (arith, sum_le m (λ q. minus ticks t p u q) (λ q. ticks u q) (λ q l. omega arith), fits.rows u h);
      columns = λ q h. omega (arith, sum_le n (λ u. minus ticks t p u q) (λ u. ticks u q) (λ u l. omega arith), fits.columns q h);
    }

empty_laid : (n m frame : ℕ) (ticks : ℕ → ℕ → ℕ) → Fits n m frame ticks → total n m ticks ≡ 0 → Laid m frame ticks (λ k q. None)
empty_laid n m frame ticks fits none =
    record {
      once = λ k u h. omega (arith, sum_zero m (λ q. 0) (λ q l. refl));
      exact = λ u q h. elim (cases_lt u n) [
        | inl low ↦ omega (arith, sum_zero frame (λ k. 0) (λ k l. refl), point_le_sum n (λ v. sum_below m (λ j. ticks v j)) u low, point_le_sum m (λ j. ticks u j) q h)
        | inr high ↦ omega (arith, sum_zero frame (λ k. 0) (λ k l. refl), fits.outside u q high)
      ];
    }

some_pair : (n m : ℕ) (ticks : ℕ → ℕ → ℕ) → 0 < total n m ticks → (t : ℕ) × (p : ℕ) × (t < n) × (p < m) × (0 < ticks t p)
some_pair n m ticks some =
    let (t, ht, row) = positive_point n (λ u. sum_below m (λ q. ticks u q)) some in
    let (p, hp, here) = positive_point m (λ q. ticks t q) row in
    (t, p, ht, hp, here)

lay_all : (fuel n m frame : ℕ) (ticks : ℕ → ℕ → ℕ) → Fits n m frame ticks → total n m ticks ≤ fuel → (plan : Plan) × Laid m frame ticks plan
lay_all zero n m frame ticks fits enough = (λ k q. None, empty_laid n m frame ticks fits (omega arith))
lay_all (suc fuel) n m frame ticks fits enough =
    elim (cases_eq (total n m ticks) 0) [
      | inl none ↦ (λ k q. None, empty_laid n m frame ticks fits none)
      | inr some ↦
          let (t, p, ht, hp, here) = some_pair n m ticks (omega arith) in
          let fits' = minus_fits n m frame ticks t p fits in
          let (plan, laid) = lay_all fuel n m frame (minus ticks t p) fits' (omega (arith, minus_total n m ticks t p ht hp here)) in
          let (plan', laid') = lay n m frame (minus ticks t p) plan laid fits'.outside t p hp
          (omega (arith, minus_row m ticks t p hp here t, hit_same t t refl, fits.rows t ht))
          (omega (arith, minus_column n ticks t p ht here, fits.columns p hp)) in
          (plan', laid_same m frame (plus (minus ticks t p) t p) ticks plan' (λ u q h. plus_minus ticks t p here u q) laid')
    ]

-- a load's ticks, and none for what is no task of it
abbrev trimmed : Load → ℕ → ℕ → ℕ
trimmed s u q = cond (ltb u s.tasks) (s.ticks u q) 0

trimmed_in : (s : Load) (u q : ℕ) → u < s.tasks → trimmed s u q ≡ s.ticks u q
trimmed_in s u q h = cond-true (ltb u s.tasks) (s.ticks u q) 0 (lt-ltb u s.tasks h)

trimmed_out : (s : Load) (u q : ℕ) → s.tasks ≤ u → trimmed s u q ≡ 0
trimmed_out s u q h = cond-false (ltb u s.tasks) (s.ticks u q) 0 (le-ltb u s.tasks h)

trimmed_fits : (s : Load) → Within s → Fits s.tasks s.processors s.frame (trimmed s)
trimmed_fits s within =
    record {
      outside = trimmed_out s;
      rows = λ u h. omega (arith, within.tasks u h, sum_same s.processors (λ q. trimmed s u q) (λ q. s.ticks u q) (λ q l. trimmed_in s u q h));
      columns = λ q h. omega (arith, within.processors q h, sum_same s.tasks (λ u. trimmed s u q) (λ u. s.ticks u q) (λ u l. trimmed_in s u q l));
    }

unit_from_laid : (s : Load) (plan : Plan) → Laid s.processors s.frame (trimmed s) plan → UnitPlan s plan
unit_from_laid s plan laid =
    record {
      names = λ k p t hk hp e. elim (cases_lt t s.tasks) [
        | inl low ↦ low
        | inr high ↦ absurd (omega (arith, point_le_sum s.frame (λ j. hit t (plan j p)) k hk, hit_of t (plan k p) e, laid.exact t p hp, trimmed_out s t p high))
      ];
      apart = λ k p q t hk hp hq. same_place s.processors (plan k) t p q (laid.once k t hk) hp hq;
      exact = λ t p ht hp. laid.exact t p hp ∙ trimmed_in s t p ht;
    }

pub plannable : (s : Load) → Within s → Plannable s
plannable s within = let (plan, laid) = lay_all (total s.tasks s.processors (trimmed s)) s.tasks s.processors s.frame (trimmed s) (trimmed_fits s within) (omega arith) in (plan, unit_from_laid s plan laid)

-- at each tick a task is at one processor at most
pub task_once : (s : Load) (plan : Plan) → UnitPlan s plan → (k t : ℕ) → k < s.frame → used s.processors (plan k) t ≤ 1
task_once s plan unit k t hk = once_if_apart s.processors (plan k) t (λ p q. unit.apart k p q t hk)

same_task : (u v : ℕ) (o : Option ℕ) → 0 < hit u o → 0 < hit v o → u ≡ v
same_task u v o hu hv =
    let eu : o ≡ Some u = hit_named u o hu in
    let ev : o ≡ Some v = hit_named v o hv in
    cc

-- at each tick a processor has one task at most
pub processor_once : (n : ℕ) (o : Option ℕ) → sum_below n (λ t. hit t o) ≤ 1
processor_once n o = sum_le_one n (λ t. hit t o) (λ t h. hit_le_one t o) (λ u v hu hv. same_task u v o)

-- a task's processors, tick by tick, are its ticks
pub task_spread : (s : Load) (plan : Plan) → UnitPlan s plan → (t : ℕ) → t < s.tasks → sum_below s.frame (λ k. used s.processors (plan k) t) ≡ task_total s t
task_spread s plan unit t ht =
    sum_swap s.frame s.processors (λ k p. hit t (plan k p)) ∙ sum_same s.processors (λ p. sum_below s.frame (λ k. hit t (plan k p))) (λ p. s.ticks t p) (λ p hp. unit.exact t p ht hp)

-- a processor's tasks, tick by tick, are its ticks
pub processor_spread : (s : Load) (plan : Plan) → UnitPlan s plan → (p : ℕ) → p < s.processors → sum_below s.frame (λ k. sum_below s.tasks (λ t. hit t (plan k p))) ≡ processor_total s p
processor_spread s plan unit p hp =
    sum_swap s.frame s.tasks (λ k t. hit t (plan k p)) ∙ sum_same s.tasks (λ t. sum_below s.frame (λ k. hit t (plan k p))) (λ t. s.ticks t p) (λ t ht. unit.exact t p ht hp)

task_within : (s : Load) (plan : Plan) → UnitPlan s plan → (t : ℕ) → t < s.tasks → task_total s t ≤ s.frame
task_within s plan unit t ht =
    omega (arith, task_spread s plan unit t ht, sum_le_bound s.frame (λ k. used s.processors (plan k) t) (λ k hk. task_once s plan unit k t hk))

processor_within : (s : Load) (plan : Plan) → UnitPlan s plan → (p : ℕ) → p < s.processors → processor_total s p ≤ s.frame
processor_within s plan unit p hp =
    omega (arith, processor_spread s plan unit p hp, sum_le_bound s.frame (λ k. sum_below s.tasks (λ t. hit t (plan k p))) (λ k hk. processor_once s.tasks (plan k p)))

pub within_if_plannable : (s : Load) → Plannable s → Within s
within_if_plannable s (plan, unit) = record { tasks = task_within s plan unit; processors = processor_within s plan unit }

pub plans_stand : PlansStand
plans_stand s = (plannable s, within_if_plannable s)

-- the same, a line at a time
pub plannable_lines : (s : Load) → ((t : ℕ) → t < s.tasks → task_total s t ≤ s.frame) → ((p : ℕ) → p < s.processors → processor_total s p ≤ s.frame) → Plannable s
plannable_lines s tasks processors = plannable s (record { tasks = tasks; processors = processors })
