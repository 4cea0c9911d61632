-- Counts of the numbers below a bound that pass a test.
use Rattle.std.proofs.Common.{◌≡◌, ℕ, zero, suc, ◌<◌, ◌≤◌, Bool, true, false, cond, not, ◌&&◌, eqb, sym, refl, ap, ◌∙◌, subst, ⊎_elim, zero-le, arith}
use Rattle.std.proofs.lemmas.Bool.{cases_eq, cases_Bool, ne_eqb, eq-eqb, not_from_true, and_right}
use Rattle.std.proofs.lemmas.Bool.Decides.{Decides-below_or}
use Rattle.counting.specs.Sums.{count_below, any_below}
use Rattle.counting.proofs.Sums.{sum_same}

pub count_same : (n : ℕ) (p q : ℕ → Bool) → ((i : ℕ) → i < n → p i ≡ q i) → count_below n p ≡ count_below n q
count_same n p q h = sum_same n (λ i. cond (p i) 1 0) (λ i. cond (q i) 1 0) (λ i l. ap (λ b. cond b 1 0) (h i l))

pub count_yes : (n : ℕ) (p : ℕ → Bool) → p n ≡ true → count_below (suc n) p ≡ suc (count_below n p)
count_yes n p e = let k : cond {A = ℕ} (p n) 1 0 ≡ 1 = ap (λ b. cond b 1 0) e in omega arith

pub count_no : (n : ℕ) (p : ℕ → Bool) → p n ≡ false → count_below (suc n) p ≡ count_below n p
count_no n p e = let k : cond {A = ℕ} (p n) 1 0 ≡ 0 = ap (λ b. cond b 1 0) e in omega arith

pub count_le : (n : ℕ) (p : ℕ → Bool) → count_below n p ≤ n
count_le zero p = zero-le
count_le (suc n) p = ⊎_elim (λ e. omega (arith, count_yes n p e, count_le n p)) (λ e. omega (arith, count_no n p e, count_le n p)) (cases_Bool (p n))

-- the set without one number
abbrev pub without : (ℕ → Bool) → ℕ → ℕ → Bool
without q x i = q i && not (eqb i x)

pub without_other : (q : ℕ → Bool) (x i : ℕ) → (i ≡ x → ⊥) → q i ≡ without q x i
without_other q x i ne = grind (arith, ne_eqb i x ne)

pub without_same : (q : ℕ → Bool) (x : ℕ) → without q x x ≡ false
without_same q x = and_right (q x) (not (eqb x x)) (not_from_true (eqb x x) (eq-eqb x x refl))

pub count_without : (n : ℕ) (q : ℕ → Bool) (x : ℕ) → x < n → q x ≡ true → count_below n q ≡ suc (count_below n (without q x))
count_without zero q x l e = absurd (omega arith)
count_without (suc n) q x l e = ⊎_elim here (there (λ k. count_without n q x k e)) (cases_eq x n)
  where
    here : x ≡ n → count_below (suc n) q ≡ suc (count_below (suc n) (without q x))
    here s =
        let last : without q x n ≡ false = ap (λ y. without q x y) (sym s) ∙ without_same q x in
        let own : q n ≡ true = ap q (sym s) ∙ e in
        let rest : count_below n q ≡ count_below n (without q x) = count_same n q (without q x) (λ i k. without_other q x i (λ t. omega arith)) in
        omega (arith, count_yes n q own, count_no n (without q x) last)

    there : (x < n → count_below n q ≡ suc (count_below n (without q x))) → (x ≡ n → ⊥) → count_below (suc n) q ≡ suc (count_below (suc n) (without q x))
    there ih ne =
        let last : cond {A = ℕ} (q n) 1 0 ≡ cond (without q x n) 1 0 = ap (λ b. cond b 1 0) (without_other q x n (λ t. ne (sym t))) in
        let less : x < n = omega arith in
        omega (arith, ih less)

-- each member of p has a partner in q, and no two have the same
pub count_inject : (R : ℕ → ℕ → Type 0) (n m : ℕ) (p q : ℕ → Bool) → ((i : ℕ) → i < n → p i ≡ true → (x : ℕ) × (x < m) × (q x ≡ true) × R i x) → ((i j x : ℕ) → R i x → R j x → i ≡ j) → count_below n p ≤ count_below m q
count_inject R zero m p q has one = zero-le
count_inject R (suc n) m p q has one = ⊎_elim (yes_in (λ r h. count_inject R n m p r h one)) (no_in (count_inject R n m p q (λ i l. has i (omega arith)) one)) (cases_Bool (p n))
  where
    no_in : count_below n p ≤ count_below m q → p n ≡ false → count_below (suc n) p ≤ count_below m q
    no_in ih e = omega (arith, count_no n p e)

    yes_in : ((r : ℕ → Bool) → ((i : ℕ) → i < n → p i ≡ true → (x : ℕ) × (x < m) × (r x ≡ true) × R i x) → count_below n p ≤ count_below m r) → p n ≡ true → count_below (suc n) p ≤ count_below m q
    yes_in ih e =
        let (x, small, in_q, joint) = has n (omega arith) e in
        let more = count_without m q x small in_q in
        let others : (i : ℕ) → i < n → p i ≡ true → (y : ℕ) × (y < m) × (without q x y ≡ true) × R i y = λ i l t.
        let (y, small_y, in_y, joint_y) = has i (omega arith) t in
        (y, small_y, sym (without_other q x y (λ s. let z : i ≡ n = one i n x (subst (λ w. R i w) s joint_y) joint in omega arith)) ∙ in_y, joint_y) in
        omega (arith, count_yes n p e, more, ih (without q x) others)

pub any_from : (n : ℕ) (t : ℕ → Bool) (i : ℕ) → i < n → t i ≡ true → any_below n t ≡ true
any_from n t i l e = (Decides-below_or t (λ k. t k ≡ true) (λ k. any_below k t) (λ k. (λ h. h, λ h. h)) refl (λ _. refl) n).1 (i, l, e)

pub any_to : (n : ℕ) (t : ℕ → Bool) → any_below n t ≡ true → (i : ℕ) × (i < n) × (t i ≡ true)
any_to n t e = (Decides-below_or t (λ k. t k ≡ true) (λ k. any_below k t) (λ k. (λ h. h, λ h. h)) refl (λ _. refl) n).0 e
