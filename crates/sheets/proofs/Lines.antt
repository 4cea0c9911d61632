-- What a write to a table of lines leaves.
use Rattle.std.proofs.Common.{◌≡◌, ℕ, ◌<◌, ◌≤◌, cond, eqb, List, [], length, get_or, set, replicate, sym, refl, ap, ◌∙◌, subst, ⊎_elim, arith}
use mathlib.Core.Path.{fun_ext}
use Rattle.std.proofs.lemmas.List.{get_or-set_other, get_or-replicate, get_or_past}
use Rattle.std.proofs.lemmas.Bool.{cases_lt}
use Rattle.std.proofs.lemmas.Bool.Decides.{nat_tests}
use Rattle.std.proofs.lemmas.Grind.{get_or-set_at}
use Rattle.sheets.specs.Cells.{cell, nothing, written, cleared}

-- a line of 16 pairs without ticks, and 64 of them
abbrev no_line : List ℕ
no_line = replicate 16 0

abbrev no_lines : List (List ℕ)
no_lines = replicate 64 no_line

idle_at : (p : ℕ) → get_or no_line p 0 ≡ 0
idle_at p = grind (arith, get_or-replicate, get_or_past)

empty_cell : (t p : ℕ) → cell no_lines t p ≡ 0
empty_cell t p =
    ⊎_elim (λ h. ap (λ (r : List ℕ). get_or r p 0) (get_or-replicate 64 t no_line [] h) ∙ idle_at p)
    (λ h. ap (λ (r : List ℕ). get_or r p 0) (get_or_past no_lines t [] h)) (cases_lt t 64)

pub empty_is : cell no_lines ≡ nothing
empty_is = fun_ext (λ t. fun_ext (λ p. empty_cell t p))

module _ (rows : List (List ℕ)) (tall : length rows ≡ 64) (t : ℕ) (ht : t < 64) where
  -- a line at the place t, and the others
  set_line : (row : List ℕ) (a b : ℕ) → cell (set rows t row) a b ≡ cond (eqb a t) (get_or row b 0) (cell rows a b)
  set_line row a b = grind (arith, nat_tests, get_or-set_at, get_or-set_other)

  cleared_cell : (a b : ℕ) → cell (set rows t no_line) a b ≡ cleared (cell rows) t a b
  cleared_cell a b = let l = set_line no_line a b in let i = idle_at b in grind arith

  pub cleared_is : cell (set rows t no_line) ≡ cleared (cell rows) t
  cleared_is = fun_ext (λ a. fun_ext (λ b. cleared_cell a b))

-- what stands after a write keeps to the bounds
module _ (f : ℕ → ℕ → ℕ) (t p x : ℕ) where
  pub written_light : x ≤ 1000000000 → ((a b : ℕ) → f a b ≤ 1000000000) → (a b : ℕ) → written f t p x a b ≤ 1000000000
  written_light hx h a b = let k : f a b ≤ 1000000000 = h a b in grind (arith, nat_tests)

  pub written_below : (n : ℕ) → t < n → ((a b : ℕ) → n ≤ a → f a b ≡ 0) → (a b : ℕ) → n ≤ a → written f t p x a b ≡ 0
  written_below n ht h a b ha = let k : f a b ≡ 0 = h a b ha in grind (arith, nat_tests)

  pub written_beside : (m : ℕ) → p < m → ((a b : ℕ) → m ≤ b → f a b ≡ 0) → (a b : ℕ) → m ≤ b → written f t p x a b ≡ 0
  written_beside m hp h a b hb = let k : f a b ≡ 0 = h a b hb in grind (arith, nat_tests)

module _ (f : ℕ → ℕ → ℕ) (t : ℕ) where
  pub cleared_light : ((a b : ℕ) → f a b ≤ 1000000000) → (a b : ℕ) → cleared f t a b ≤ 1000000000
  cleared_light h a b = let k : f a b ≤ 1000000000 = h a b in grind (arith, nat_tests)

  pub cleared_zero : (a b : ℕ) → f a b ≡ 0 → cleared f t a b ≡ 0
  cleared_zero a b k = grind (arith, nat_tests)

-- the same of what is equal
pub light_at : {f g : ℕ → ℕ → ℕ} → f ≡ g → ((a b : ℕ) → g a b ≤ 1000000000) → (a b : ℕ) → f a b ≤ 1000000000
light_at {f} {g} e h a b = subst (λ (k : ℕ → ℕ → ℕ). k a b ≤ 1000000000) (sym e) (h a b)

pub zero_at : {f g : ℕ → ℕ → ℕ} → f ≡ g → (a b : ℕ) → g a b ≡ 0 → f a b ≡ 0
zero_at {f} {g} e a b h = subst (λ (k : ℕ → ℕ → ℕ). k a b ≡ 0) (sym e) h

pub all_zero : {f : ℕ → ℕ → ℕ} → f ≡ nothing → (a b : ℕ) → f a b ≡ 0
all_zero e a b = zero_at e a b refl

pub all_light : {f : ℕ → ℕ → ℕ} → f ≡ nothing → (a b : ℕ) → f a b ≤ 1000000000
all_light e a b = let k : nothing a b ≤ 1000000000 = omega arith in light_at e (λ c d. omega arith) a b
