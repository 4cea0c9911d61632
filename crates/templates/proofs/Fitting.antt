-- Which rows may stand in a slot.
use Rattle.std.proofs.Common.{◌≡◌, ℕ, ◌<◌, ◌↔◌, Bool, true, false, not, ◌&&◌, ltb, length, Some, None, Option, sym, refl, ap, ◌∙◌, ⊎_elim, arith}
use Rattle.std.proofs.lemmas.List.{get_or_past}
use Rattle.std.proofs.lemmas.Bool.{cases_lt, cases_order, cases_Bool, and_parts, lt-ltb, ltb-true, eqb-true, eq-eqb, both_ways, not-true, false_from_ne_true}
use Rattle.std.proofs.lemmas.Bool.Decides.{Decides-below_and}
use Rattle.counting.proofs.Counts.{any_from, any_to}
use Rattle.graphs.specs.Graphs.{Row, at}
use Rattle.graphs.specs.Rows.{DistinctBefore}
use Rattle.templates.specs.Rows.{all_below, names, taken, entry_fits, row_fits}

abbrev pub fits_at : ℕ → ℕ → Row → ℕ → Bool
fits_at n m row p = entry_fits n m row p (at row p)

pub all_three : (x y z : Bool) → x ≡ true → y ≡ true → z ≡ false → (x && y && not z) ≡ true
all_three x y z p q r = grind arith

all_yes : (k : ℕ) (test : ℕ → Bool) → all_below k test ≡ true → (i : ℕ) → i < k → test i ≡ true
all_yes k test h = (Decides-below_and test (λ i. test i ≡ true) (λ j. all_below j test) (λ i. (λ e. e, λ e. e)) refl (λ _. refl) k).0 h

all_from : (k : ℕ) (test : ℕ → Bool) → ((i : ℕ) → i < k → test i ≡ true) → all_below k test ≡ true
all_from k test h = (Decides-below_and test (λ i. test i ≡ true) (λ j. all_below j test) (λ i. (λ e. e, λ e. e)) refl (λ _. refl) k).1 h

pub record RowSound (n m : ℕ) (row : Row) : Type 0 where
  pub named : (p t : ℕ) → at row p ≡ Some t → (t < n) × (p < m)
  pub apart : (p q t : ℕ) → at row p ≡ Some t → at row q ≡ Some t → p ≡ q

named_from : (o : Option ℕ) (t : ℕ) → names o t ≡ true → o ≡ Some t
named_from None t h = absurd (cc)
named_from (Some a) t h = ap Some (eqb-true a t h)

module _ (n m : ℕ) (row : Row) where
  inside : (p t : ℕ) → at row p ≡ Some t → p < length row
  inside p t h =
      ⊎_elim (λ l. l)
      (λ l. let out = get_or_past row p None l in absurd (cc))
      (cases_lt p (length row))

  has : (p q t : ℕ) → p < q → at row p ≡ Some t → taken row q t ≡ true
  has p q t l h = any_from q (λ i. names (at row i) t) p l (ap (λ o. names o t) h ∙ eq-eqb t t refl)

  module _ (fits : row_fits n m row ≡ true) where
    entry : (p t : ℕ) → at row p ≡ Some t → (ltb p m && ltb t n && not (taken row p t)) ≡ true
    entry p t h = sym (ap (entry_fits n m row p) h) ∙ all_yes (length row) (fits_at n m row) fits p (inside p t h)

    parts : (p t : ℕ) → at row p ≡ Some t → (p < m) × (t < n) × (taken row p t ≡ false)
    parts p t h =
        let e = and_parts (ltb p m && ltb t n) (not (taken row p t)) (entry p t h) in
        let f = and_parts (ltb p m) (ltb t n) e.0 in
        (ltb-true p m f.0, ltb-true t n f.1, not-true (taken row p t) e.1)

    pub row_sound : RowSound n m row
    row_sound = record {
      named = λ p t h. ((parts p t h).1, (parts p t h).0);
      apart = λ p q t h k. ⊎_elim (λ e. e)
          (λ o. ⊎_elim (λ l. absurd (both_ways (taken row q t) (parts q t k).2 (has p q t l h)))
          (λ l. absurd (both_ways (taken row p t) (parts p t h).2 (has q p t l k))) o)
          (cases_order p q);
    }

  module _ (sound : RowSound n m row) where
    new : (p t : ℕ) → at row p ≡ Some t → taken row p t ≡ false
    new p t h =
        ⊎_elim
        (λ e. let (q, l, o) = any_to p (λ i. names (at row i) t) e in
        let z : q ≡ p = sound.apart q p t (named_from (at row q) t o) h in absurd (omega arith))
        (λ e. e) (cases_Bool (taken row p t))

    entry_from : (p : ℕ) (o : Option ℕ) → at row p ≡ o → entry_fits n m row p o ≡ true
    entry_from p None h = refl
    entry_from p (Some t) h =
        all_three (ltb p m) (ltb t n) (taken row p t) (lt-ltb p m (sound.named p t h).1) (lt-ltb t n (sound.named p t h).0) (new p t h)

    pub row_from : row_fits n m row ≡ true
    row_from = all_from (length row) (fits_at n m row) (λ p _. entry_from p (at row p) refl)

-- the check of a row
same_truth : (a b : Bool) → (a ≡ true → b ≡ true) → (b ≡ true → a ≡ true) → a ≡ b
same_truth a b f g = ⊎_elim (λ e. e ∙ sym (f e)) (λ e. e ∙ sym (false_from_ne_true b (λ h. both_ways a e (g h)))) (cases_Bool a)

pub fits_when : (a : Bool) (n m : ℕ) (row : Row) → ((a ≡ true) ↔ DistinctBefore n m row) → a ≡ row_fits n m row
fits_when a n m row both = same_truth a (row_fits n m row) (λ e. row_from n m row (sound (both.0 e))) (λ e. both.1 (before (row_sound n m row e)))
  where
    sound : DistinctBefore n m row → RowSound n m row
    sound d = record { named = λ p t h. (d.distinct.small p t h, d.before p t h); apart = d.distinct.apart }

    before : RowSound n m row → DistinctBefore n m row
    before s = record {
      distinct = record { small = λ p t h. (s.named p t h).0; apart = s.apart };
      before = λ p t h. (s.named p t h).1;
    }
