-- Tables of one value, and a row after an entry is filled.
use Rattle.std.proofs.Common.{◌≡◌, ℕ, zero, suc, ◌<◌, ◌⊎◌, length, get_or, set, replicate, Some, None, Option, sym, refl, ◌∙◌, inl, inr, ⊎_elim, get_or-set_other, get_or-set_same}
use Rattle.std.proofs.lemmas.Bool.{cases_eq}
use Rattle.graphs.specs.Graphs.{Row, at}

pub all_same : {A : Type 0} (n i : ℕ) (d : A) → get_or (replicate n d) i d ≡ d
all_same zero i d = refl
all_same (suc n) zero d = refl
all_same (suc n) (suc i) d = all_same n i d

pub blank : (n b : ℕ) → at (replicate n None) b ≡ None
blank n b = all_same n b None

pub clash : (o : Option ℕ) (a : ℕ) → o ≡ None → o ≡ Some a → ⊥
clash o a p q = cc

pub one_value : (o : Option ℕ) (a e : ℕ) → o ≡ Some a → o ≡ Some e → a ≡ e
one_value o a e p q = cc

module _ (owner : Row) (b : ℕ) (fits : b < length owner) (a : ℕ) where
  pub fill_here : at (set owner b (Some a)) b ≡ Some a
  fill_here = get_or-set_same owner b (Some a) None fits

  pub fill_else : (x : ℕ) → (x ≡ b → ⊥) → at (set owner b (Some a)) x ≡ at owner x
  fill_else x ne = get_or-set_other owner b x (Some a) None ne

  pub fill_from : (x e : ℕ) → at (set owner b (Some a)) x ≡ Some e → ((x ≡ b) × (e ≡ a)) ⊎ ((x ≡ b → ⊥) × (at owner x ≡ Some e))
  fill_from x e h = ⊎_elim
      (λ q. inl (q, cc (fill_here, h, q)))
      (λ ne. inr (ne, sym (fill_else x ne) ∙ h))
      (cases_eq x b)
