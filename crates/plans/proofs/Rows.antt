-- Rows: for each processor a task or nobody. How often a row names a task, and a row changed at one place.
use Rattle.std.proofs.Common.{◌≡◌, ℕ, ◌+◌, ◌<◌, ◌≤◌, true, false, cond, eqb, Some, None, Option, refl, ap, ◌∙◌, inl, inr, arith}
use Rattle.std.proofs.lemmas.Bool.{cases_eq, eq-eqb, ne_eqb, cond-true, cond-false}
use Rattle.counting.specs.Sums.{sum_below}
use Rattle.plans.specs.Plans.{is_task}
use Rattle.counting.proofs.Sums.{sum_zero, sum_changed_at, two_points_le_sum, positive_point, sum_le_one}

abbrev pub Row : Type 0
Row = ℕ → Option ℕ

-- one where the entry is the task, else zero
abbrev pub hit : ℕ → Option ℕ → ℕ
hit u o = cond (is_task u o) 1 0

-- how many processors below m have the task
abbrev pub used : ℕ → Row → ℕ → ℕ
used m row u = sum_below m (λ q. hit u (row q))

pub put : {A : Type 0} → (ℕ → A) → ℕ → A → ℕ → A
put f p a q = cond (eqb q p) a (f q)

abbrev pub nobody : Row
nobody q = None

-- the row with one entry
abbrev pub single : ℕ → ℕ → Row
single t p = put nobody p (Some t)

pub put_at : {A : Type 0} (f : ℕ → A) (p : ℕ) (a : A) (q : ℕ) → q ≡ p → put f p a q ≡ a
unfolding put
put_at f p a q e = cond-true (eqb q p) a (f q) (eq-eqb q p e)

pub put_off : {A : Type 0} (f : ℕ → A) (p : ℕ) (a : A) (q : ℕ) → (q ≡ p → ⊥) → put f p a q ≡ f q
unfolding put
put_off f p a q ne = cond-false (eqb q p) a (f q) (ne_eqb q p ne)

pub hit_le_one : (u : ℕ) (o : Option ℕ) → hit u o ≤ 1
hit_le_one u None = omega arith
hit_le_one u (Some a) = elim (eqb a u) as (λ b. cond b 1 0 ≤ 1) [ true ↦ omega arith | false ↦ omega arith ]

pub hit_same : (u a : ℕ) → a ≡ u → hit u (Some a) ≡ 1
hit_same u a e = cond-true (eqb a u) 1 0 (eq-eqb a u e)

pub hit_other : (u a : ℕ) → (a ≡ u → ⊥) → hit u (Some a) ≡ 0
hit_other u a ne = cond-false (eqb a u) 1 0 (ne_eqb a u ne)

pub hit_named : (u : ℕ) (o : Option ℕ) → 0 < hit u o → o ≡ Some u
hit_named u None h = absurd (omega arith)
hit_named u (Some a) h = elim (cases_eq a u) [ inl e ↦ ap Some e | inr ne ↦ absurd (omega (arith, hit_other u a ne)) ]

pub hit_of : (u : ℕ) (o : Option ℕ) → o ≡ Some u → hit u o ≡ 1
hit_of u o e = ap (hit u) e ∙ hit_same u u refl

pub none_if_unhit : (o : Option ℕ) → ((u : ℕ) → hit u o ≡ 0) → o ≡ None
none_if_unhit None h = refl
none_if_unhit (Some a) h = absurd (omega (arith, h a, hit_same a a refl))

-- a row's entry where its place and what stands there are known
pub hit_entry : (u : ℕ) (row : Row) (p : ℕ) (o : Option ℕ) (q : ℕ) → q ≡ p → row p ≡ o → hit u (row q) ≡ hit u o
hit_entry u row p o q e is = ap (λ i. hit u (row i)) e ∙ ap (hit u) is

pub hit_at : (u : ℕ) (row : Row) (p : ℕ) (o : Option ℕ) (q : ℕ) → q ≡ p → hit u (put row p o q) ≡ hit u o
hit_at u row p o q e = ap (hit u) (put_at row p o q e)

pub hit_off : (u : ℕ) (row : Row) (p : ℕ) (o : Option ℕ) (q : ℕ) → (q ≡ p → ⊥) → hit u (put row p o q) ≡ hit u (row q)
hit_off u row p o q ne = ap (hit u) (put_off row p o q ne)

pub used_put : (m : ℕ) (row : Row) (p : ℕ) (o : Option ℕ) (u : ℕ) → p < m → used m (put row p o) u + hit u (row p) ≡ used m row u + hit u o
used_put m row p o u h =
    let changed = sum_changed_at m (λ q. hit u (put row p o q)) (λ q. hit u (row q)) p h (λ q l ne. hit_off u row p o q ne) in
    omega (arith, hit_at u row p o p refl)

pub used_none : (m u : ℕ) → used m nobody u ≡ 0
used_none m u = sum_zero m (λ _. 0) (λ i h. refl)

pub used_single : (m t p u : ℕ) → p < m → used m (single t p) u ≡ hit u (Some t)
used_single m t p u h = omega (arith, used_put m nobody p (Some t) u h, used_none m u)

-- a task that the row has is at some place
pub place_of : (m : ℕ) (row : Row) (u : ℕ) → (used m row u ≡ 0 → ⊥) → (q : ℕ) × (q < m) × (row q ≡ Some u)
place_of m row u some = let found = positive_point m (λ q. hit u (row q)) (omega arith) in (found.0, found.1, hit_named u (row found.0) found.2)

-- a task that the row has at one place at most
pub same_place : (m : ℕ) (row : Row) (u p q : ℕ) → used m row u ≤ 1 → p < m → q < m → row p ≡ Some u → row q ≡ Some u → p ≡ q
same_place m row u p q once hp hq ep eq =
    elim (cases_eq p q) [
      | inl e ↦ e
      | inr ne ↦ absurd (omega (arith, two_points_le_sum m (λ i. hit u (row i)) p q hp hq ne, hit_of u (row p) ep, hit_of u (row q) eq))
    ]

pub none_or_some : (o : Option ℕ) (u : ℕ) → o ≡ None → o ≡ Some u → ⊥
none_or_some o u none some = let z : ◌≡◌ {A = ℕ} 0 1 = cc in omega arith

pub same_entry : (o : Option ℕ) (u v : ℕ) → o ≡ Some u → o ≡ Some v → u ≡ v
same_entry o u v eu ev = cc

pub some_entry : (o : Option ℕ) → (o ≡ None → ⊥) → (u : ℕ) × (o ≡ Some u)
some_entry None some = absurd (some refl)
some_entry (Some u) some = (u, refl)

pub once_if_apart : (m : ℕ) (row : Row) (u : ℕ) → ((p q : ℕ) → p < m → q < m → row p ≡ Some u → row q ≡ Some u → p ≡ q) → used m row u ≤ 1
once_if_apart m row u apart = sum_le_one m (λ p. hit u (row p)) (λ p h. hit_le_one u (row p)) (λ p q hp hq np nq. apart p q hp hq (hit_named u (row p) np) (hit_named u (row q) nq))
