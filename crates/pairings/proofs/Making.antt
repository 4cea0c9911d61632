-- An array of a function's answers.
use Rattle.std.proofs.Common.{◌≡◌, ℕ, zero, suc, ◌+◌, ◌<◌, ◌≤◌, List, get_or, refl, subst, ⊎_elim, arith}
use Rattle.std.proofs.lemmas.Bool.{cases_eq}
use Rattle.std.specs.Array.{IsFromFnResultFrom, IsFromFnResult}
use denote.Param.Members.{Mut, Called}

module _ {F B : Type 0} (g : Mut F (ℕ × Unit {0}) B) (h : ℕ → B) (f : F) (k : (i : ℕ) (r : B) (q : F) → Called g f (i, tt) r q → (q ≡ f) × (r ≡ h i)) where
  made_from : (n i : ℕ) (p : F) → p ≡ f → (ys : List B) → IsFromFnResultFrom g p ys i n → (j : ℕ) → i ≤ j → j < i + n → (d : B) → get_or ys j d ≡ h j
  made_from zero i p e ys c j low high d = absurd (omega arith)
  made_from (suc n) i p e ys (q, y, here, called, rest) j low high d =
      let m = k i y q (subst (λ x. Called g x (i, tt) y q) e called) in
      ⊎_elim
      (λ z. cc (here.1 d, m.1, z))
      (λ ne. made_from n (i + 1) q m.0 ys rest j (omega arith) (omega arith) d)
      (cases_eq j i)

  -- where each call answers h, so does the array
  pub made_each : (ys : List B) (n : ℕ) → IsFromFnResult g f ys n → (j : ℕ) → j < n → (d : B) → get_or ys j d ≡ h j
  made_each ys n c j l d = made_from n 0 f refl ys c.each j (omega arith) (omega arith) d
