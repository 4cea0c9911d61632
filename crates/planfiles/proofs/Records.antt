-- The bytes of loads: what they hang on, and where there are none.
use Rattle.std.proofs.Common.{◌≡◌, ℕ, zero, suc, ◌/◌, ◌%◌, ◌<◌, ◌≤◌, true, cond, ltb, ◌⊎◌, List, [], ◌∷◌, ◌++◌, Some, None, Option, refl, ap, ◌∙◌, ⊎_elim, arith}
use native.Mathlib.Nat.{div-div-eq-div-mul}
use Rattle.std.proofs.lemmas.List.{append-nil, append_assoc}
use Rattle.std.proofs.lemmas.Bool.{cases_lt}
use Rattle.std.proofs.lemmas.Bool.Decides.{nat_tests}
use Rattle.sheets.specs.Cells.{written}
use Rattle.planfiles.specs.Records.{number, in_order}
use Rattle.planfiles.specs.Writing.{four, load_bytes, row_bytes, rows_bytes}

pub four_number : (a b c d : ℕ) → a < 256 → b < 256 → c < 256 → d < 256 → four (number a b c d) ≡ a ∷ b ∷ c ∷ d ∷ []
four_number a b c d ha hb hc hd =
    let x : ℕ = number a b c d in
    let ea : number a b c d / 16777216 % 256 ≡ a = omega arith in
    let eb : number a b c d / 65536 % 256 ≡ b = omega arith in
    let ec : number a b c d / 256 % 256 ≡ c = omega arith in
    let ed : number a b c d % 256 ≡ d = omega arith in
    λ i. ea i ∷ eb i ∷ ec i ∷ ed i ∷ []

pub number_four : (x : ℕ) → x < 4294967296 → number (x / 16777216 % 256) (x / 65536 % 256) (x / 256 % 256) (x % 256) ≡ x
number_four x h =
    let two : x / 256 / 256 ≡ x / 65536 = div-div-eq-div-mul x 256 256 in
    let three : x / 65536 / 256 ≡ x / 16777216 = div-div-eq-div-mul x 65536 256 in
    omega arith

module _ (f g : ℕ → ℕ → ℕ) where
  load_same : (t p : ℕ) → f t p ≡ g t p → load_bytes f t p ≡ load_bytes g t p
  load_same t p e = ap (λ x. cond (ltb 0 x) (3 ∷ t ∷ p ∷ four x) []) e

  pub row_same : (t k : ℕ) → ((b : ℕ) → b < k → f t b ≡ g t b) → row_bytes f t k ≡ row_bytes g t k
  row_same t zero h = refl
  row_same t (suc k) h = λ i. (row_same t k (λ b l. h b (omega arith))) i ++ (load_same t k (h k (omega arith))) i

  pub rows_same : (m t : ℕ) → ((a b : ℕ) → a < t → f a b ≡ g a b) → rows_bytes f m t ≡ rows_bytes g m t
  rows_same m zero h = refl
  rows_same m (suc t) h = λ i. (rows_same m t (λ a b l. h a b (omega arith))) i ++ (row_same t m (λ b l. h t b (omega arith))) i

module _ (f : ℕ → ℕ → ℕ) where
  pub load_none : (t p : ℕ) → f t p ≡ 0 → load_bytes f t p ≡ []
  load_none t p e = grind (arith, nat_tests)

  pub load_some : (t p x : ℕ) → f t p ≡ x → 1 ≤ x → load_bytes f t p ≡ 3 ∷ t ∷ p ∷ four x
  load_some t p x e h = grind (arith, nat_tests)

  pub row_skip : (t p k : ℕ) → p ≤ k → ((b : ℕ) → p ≤ b → f t b ≡ 0) → row_bytes f t k ≡ row_bytes f t p
  row_skip t p zero h z = let e : zero ≡ p = omega arith in ap (row_bytes f t) e
  row_skip t p (suc k) h z =
      ⊎_elim
      (λ l. rw (load_none t k (z k (omega arith)), append-nil) (row_skip t p k (omega arith) z))
      (λ g. let e : suc k ≡ p = omega arith in ap (row_bytes f t) e) (cases_lt p (suc k))

  pub rows_skip : (m t k : ℕ) → t ≤ k → ((a b : ℕ) → t ≤ a → f a b ≡ 0) → rows_bytes f m k ≡ rows_bytes f m t
  rows_skip m t zero h z = let e : zero ≡ t = omega arith in ap (rows_bytes f m) e
  rows_skip m t (suc k) h z =
      ⊎_elim
      (λ l. rw (row_skip k 0 m (omega arith) (λ b _. z k b (omega arith)), append-nil) (rows_skip m t k (omega arith) z))
      (λ g. let e : suc k ≡ t = omega arith in ap (rows_bytes f m) e) (cases_lt t (suc k))

-- the order of pairs
pub order_lt : (l : ℕ × ℕ) (a b : ℕ) → l.0 < a → in_order (Some l) a b ≡ true
order_lt l a b h = grind (arith, nat_tests)

pub order_eq : (l : ℕ × ℕ) (b : ℕ) → l.1 < b → in_order (Some l) l.0 b ≡ true
order_eq l b h = grind (arith, nat_tests)

pub order_cases : (l : ℕ × ℕ) (t p : ℕ) → in_order (Some l) t p ≡ true → (l.0 < t) ⊎ ((l.0 ≡ t) × (l.1 < p))
order_cases l t p o = grind (arith, nat_tests)

pub order_trans : (last : Option (ℕ × ℕ)) (t p a b : ℕ) → in_order last t p ≡ true → in_order (Some (t, p)) a b ≡ true → in_order last a b ≡ true
order_trans None t p a b o q = refl
order_trans (Some l) t p a b o q = grind (arith, nat_tests)

-- the loads before a pair, and up to the last one
abbrev pub before : (ℕ → ℕ → ℕ) → ℕ → ℕ → ℕ → List ℕ
before f m t p = rows_bytes f m t ++ row_bytes f t p

abbrev pub upto : (ℕ → ℕ → ℕ) → ℕ → Option (ℕ × ℕ) → List ℕ
upto f m None = []
upto f m (Some l) = before f m l.0 (suc l.1)

-- nothing after the last load
abbrev pub Clean : (ℕ → ℕ → ℕ) → Option (ℕ × ℕ) → Type 0
Clean f last = (a b : ℕ) → in_order last a b ≡ true → f a b ≡ 0

abbrev pub Within : ℕ → ℕ → Option (ℕ × ℕ) → Type 0
Within n m None = Unit {0}
Within n m (Some l) = (l.0 < n) × (l.1 < m)

pub skip : (f : ℕ → ℕ → ℕ) (n m t p : ℕ) (last : Option (ℕ × ℕ)) → Clean f last → Within n m last → in_order last t p ≡ true → upto f m last ≡ before f m t p
skip f n m t p None clean w o =
    rw (rows_skip f m 0 t (omega arith) (λ a b _. clean a b refl), row_skip f t 0 p (omega arith) (λ b _. clean t b refl)) refl
skip f n m t p (Some l) clean w o =
    let after : (a b : ℕ) → suc l.0 ≤ a → f a b ≡ 0 = λ a b h. clean a b (order_lt l a b h) in
    let beside : (b : ℕ) → suc l.1 ≤ b → f l.0 b ≡ 0 = λ b h. clean l.0 b (order_eq l b h) in
    ⊎_elim
    (λ h. rw (rows_skip f m (suc l.0) t h after, row_skip f t 0 p (omega arith) (λ b _. after t b h), append-nil, row_skip f l.0 (suc l.1) m w.1 beside) refl)
    (λ h. rw (← h.0, row_skip f l.0 (suc l.1) p h.1 beside) refl) (order_cases l t p o)

-- one more load
module _ (f : ℕ → ℕ → ℕ) (t p x : ℕ) where
  written_here : written f t p x t p ≡ x
  written_here = grind (arith, nat_tests)

  written_left : (b : ℕ) → b < p → f t b ≡ written f t p x t b
  written_left b h = grind (arith, nat_tests)

  written_above : (a b : ℕ) → a < t → f a b ≡ written f t p x a b
  written_above a b h = grind (arith, nat_tests)

  written_after : (a b : ℕ) → in_order (Some (t, p)) a b ≡ true → written f t p x a b ≡ f a b
  written_after a b h = grind (arith, nat_tests)

  pub clean_more : (last : Option (ℕ × ℕ)) → Clean f last → in_order last t p ≡ true → Clean (written f t p x) (Some (t, p))
  clean_more last clean o a b q = written_after a b q ∙ clean a b (order_trans last t p a b o q)

  pub taken_more : (n m : ℕ) (last : Option (ℕ × ℕ)) (rest : List ℕ) → Clean f last → Within n m last → in_order last t p ≡ true → 1 ≤ x → upto f m last ++ (3 ∷ t ∷ p ∷ (four x ++ rest)) ≡ upto (written f t p x) m (Some (t, p)) ++ rest
  taken_more n m last rest clean w o h =
      let g = written f t p x in
      let this : List ℕ = 3 ∷ t ∷ p ∷ four x in
      let here : load_bytes (written f t p x) t p ≡ 3 ∷ t ∷ p ∷ four x = load_some (written f t p x) t p x written_here h in
      rw (skip f n m t p last clean w o, rows_same f g m t written_above, row_same f g t p written_left, here) (simp append_assoc)
