-- One more pair in two rows, where the task is free in the first and the processor is free in the second.
use Rattle.std.proofs.Common.{◌≡◌, ℕ, zero, suc, ◌+◌, ◌<◌, ◌≤◌, Some, None, Option, sym, refl, ap, inl, inr, arith}
use Rattle.std.proofs.lemmas.Bool.{cases_eq}
use Rattle.counting.specs.Sums.{sum_below}
use Rattle.counting.proofs.Sums.{sum_same, sum_add, sum_changed_at, point_le_sum}
use Rattle.plans.proofs.Rows.{Row, hit, used, put, single, nobody, put_at, put_off, hit_entry, hit_at, hit_off, hit_same, hit_other, hit_of, used_put, used_single, place_of}

-- the rows first' and second' have the pairs of first and second and the pair of t and p
pub record Woven (m : ℕ) (first second : Row) (t p : ℕ) (first' second' : Row) : Type 0 where
  pub pairs : (u q : ℕ) → q < m → hit u (first' q) + hit u (second' q) ≡ hit u (first q) + hit u (second q) + hit u (single t p q)
  pub within : (u : ℕ) → used m first' u ≤ used m first u + hit u (Some t)
  pub placed : used m first' t ≡ 1
  pub apart : (u : ℕ) → used m second' u ≤ 1

-- what the weaving starts from
pub record Ready (m : ℕ) (first second : Row) (t p : ℕ) : Type 0 where
  pub place : p < m
  pub first_once : (u : ℕ) → used m first u ≤ 1
  pub second_once : (u : ℕ) → used m second u ≤ 1
  pub task_free : used m first t ≡ 0
  pub processor_free : second p ≡ None

woven_total : (m : ℕ) (first second : Row) (t p : ℕ) (first' second' : Row) → p < m → Woven m first second t p first' second' → (u : ℕ) → used m first' u + used m second' u ≡ used m first u + used m second u + hit u (Some t)
woven_total m first second t p first' second' h w u =
    let same = sum_same m (λ q. hit u (first' q) + hit u (second' q)) (λ q. hit u (first q) + hit u (second q) + hit u (single t p q)) (λ q l. w.pairs u q l) in
    omega (
      arith,
      sum_add m (λ q. hit u (first' q)) (λ q. hit u (second' q)),
      sum_add m (λ q. hit u (first q)) (λ q. hit u (second q)),
      sum_add m (λ q. hit u (first q) + hit u (second q)) (λ q. hit u (single t p q)),
      used_single m t p u h,
    )

-- the processor is free in the first row too
weave_free : (m : ℕ) (first second : Row) (t p : ℕ) → Ready m first second t p → first p ≡ None → Woven m first second t p (put first p (Some t)) second
weave_free m first second t p ready none =
    record {
      pairs = λ u q h. grind (arith, cases_eq q p, put_at, put_off);
      within = λ u. omega (arith, used_put m first p (Some t) u ready.place);
      placed = omega (arith, used_put m first p (Some t) t ready.place, hit_same t t refl, ap (hit t) none);
      apart = ready.second_once;
    }

-- the processor's task of the first row is free in the second row
weave_end : (m : ℕ) (first second : Row) (t p t' : ℕ) → Ready m first second t p → first p ≡ Some t' → used m second t' ≡ 0 → Woven m first second t p (put first p (Some t)) (put second p (Some t'))
weave_end m first second t p t' ready some free =
    record {
      pairs = λ u q h. grind (arith, cases_eq q p, put_at, put_off);
      within = λ u. omega (arith, used_put m first p (Some t) u ready.place);
      placed = omega (arith, used_put m first p (Some t) t ready.place, hit_same t t refl, point_le_sum m (λ q. hit t (first q)) p ready.place);
      apart = λ u. grind (arith, used_put m second p (Some t') u ready.place, cases_eq t' u, hit_same u t', hit_other u t', ready.second_once u);
    }

-- the processor's task of the first row goes to the second row, and its pair there is woven in
weave_on : (m : ℕ) (first second : Row) (t p t' p' : ℕ) (first' second' : Row) → Ready m first second t p → first p ≡ Some t' → p' < m → second p' ≡ Some t' →
    Woven m (put first p None) (put second p' None) t' p' first' second' → Woven m first second t p (put first' p (Some t)) (put second' p (Some t'))
weave_on m first second t p t' p' first' second' ready some place' some' w =
    record {
      pairs = λ u q h. grind (arith, w.pairs u q h, cases_eq q p, cases_eq q p', put_at, put_off);
      within = λ u. omega (arith, first_use u);
      placed = omega (arith, first_use t, hit_same t t refl, ready.task_free);
      apart = λ u. grind (arith, second_use u, cases_eq t' u, hit_same u t', hit_other u t', second_left, w.apart u);
    }
  where
    away : p ≡ p' → ⊥
    away e = omega (arith, hit_of t' (second p') some', hit_entry t' second p None p' (sym e) ready.processor_free)

    left : (u : ℕ) → (hit u (first' p) ≡ 0) × (hit u (second' p) ≡ 0)
    left u = omega (arith, w.pairs u p ready.place, hit_at u first p None p refl, hit_off u second p' None p away, hit_off u nobody p' (Some t') p away, ap (hit u) ready.processor_free)

    first_use : (u : ℕ) → (used m (put first' p (Some t)) u ≤ used m first u + hit u (Some t)) × (hit u (Some t) ≤ used m (put first' p (Some t)) u)
    first_use u = omega (arith, used_put m first' p (Some t) u ready.place, left u, w.within u, used_put m first p None u ready.place, ap (hit u) some)

    second_use : (u : ℕ) → used m (put second' p (Some t')) u ≡ used m second' u + hit u (Some t')
    second_use u = omega (arith, used_put m second' p (Some t') u ready.place, left u)

    second_left : used m second' t' ≡ 0
    second_left = omega (
      arith,
      woven_total m (put first p None) (put second p' None) t' p' first' second' place' w t',
      w.placed,
      used_put m first p None t' ready.place,
      ap (hit t') some,
      used_put m second p' None t' place',
      ap (hit t') some',
      hit_same t' t' refl,
      ready.first_once t',
      ready.second_once t',
    )

ready_on : (m : ℕ) (first second : Row) (t p t' p' : ℕ) → Ready m first second t p → first p ≡ Some t' → p' < m → second p' ≡ Some t' → Ready m (put first p None) (put second p' None) t' p'
ready_on m first second t p t' p' ready some place' some' =
    record {
      place = place';
      first_once = λ u. omega (arith, used_put m first p None u ready.place, ready.first_once u);
      second_once = λ u. omega (arith, used_put m second p' None u place', ready.second_once u);
      task_free = omega (arith, used_put m first p None t' ready.place, hit_of t' (first p) some, ready.first_once t');
      processor_free = put_at second p' None p' refl;
    }

-- one where the entry is a task
abbrev pub filled : Option ℕ → ℕ
filled None = 0
filled (Some a) = 1

abbrev pub busy : ℕ → Row → ℕ
busy m row = sum_below m (λ q. filled (row q))

busy_put : (m : ℕ) (row : Row) (p t : ℕ) → p < m → row p ≡ Some t → suc (busy m (put row p None)) ≡ busy m row
busy_put m row p t h some =
    let changed = sum_changed_at m (λ q. filled (put row p None q)) (λ q. filled (row q)) p h (λ q l ne. ap filled (put_off row p None q ne)) in
    omega (arith, ap filled (put_at row p None p refl), ap filled some)

-- the pair can be woven into any rows whose first has so many tasks at most
abbrev pub Weaves : ℕ → ℕ → Type 0
Weaves m fuel = (first second : Row) (t p : ℕ) → Ready m first second t p → busy m first ≤ fuel → (first' : Row) × (second' : Row) × Woven m first second t p first' second'

-- one entry of the first row is given up at each step
weave_step : (m fuel : ℕ) → Weaves m fuel → (first second : Row) (t p : ℕ) → Ready m first second t p → busy m first ≤ suc fuel → (o : Option ℕ) → first p ≡ o →
    (first' : Row) × (second' : Row) × Woven m first second t p first' second'
weave_step m fuel rest first second t p ready enough None e = (put first p (Some t), second, weave_free m first second t p ready e)
weave_step m fuel rest first second t p ready enough (Some t') e =
    elim (cases_eq (used m second t') 0) [
      | inl free ↦ (put first p (Some t), put second p (Some t'), weave_end m first second t p t' ready e free)
      | inr taken ↦
          let (p', place', some') = place_of m second t' taken in
          let (first', second', w) = rest (put first p None) (put second p' None) t' p' (ready_on m first second t p t' p' ready e place' some') (omega (arith, busy_put m first p t' ready.place e)) in
          (put first' p (Some t), put second' p (Some t'), weave_on m first second t p t' p' first' second' ready e place' some' w)
    ]

idle_entry : (m : ℕ) (row : Row) (p : ℕ) → p < m → busy m row ≤ 0 → (o : Option ℕ) → row p ≡ o → row p ≡ None
idle_entry m row p h idle None e = e
idle_entry m row p h idle (Some t) e = absurd (omega (arith, point_le_sum m (λ q. filled (row q)) p h, ap filled e))

pub weave : (m fuel : ℕ) → Weaves m fuel
weave m zero first second t p ready enough = (put first p (Some t), second, weave_free m first second t p ready (idle_entry m first p ready.place enough (first p) refl))
weave m (suc fuel) first second t p ready enough = weave_step m fuel (weave m fuel) first second t p ready enough (first p) refl
