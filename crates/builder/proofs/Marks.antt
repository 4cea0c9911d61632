-- Marks that a loop sets line by line, and lines past the last one, which have none.
use Rattle.std.proofs.Common.{◌≡◌, ℕ, ◌+◌, ◌-◌, ◌<◌, ◌≤◌, Bool, false, eqb, List, ◌++◌, length, drop, get_or, set, replicate, sym, ap, ◌∙◌, inl, inr, arith}
use Rattle.std.proofs.lemmas.List.{get_or-set_same, get_or-set_other, get_or-replicate, get_or_past, length-replicate, drop-replicate, get_or_append_left, get_or-append_right}
use Rattle.std.proofs.lemmas.Bool.{cases_eq, cases_lt, ne_eqb}
use Rattle.sheets.specs.Loads.{Load, task_total}
use Rattle.counting.proofs.Sums.{sum_zero}

-- a line of nothing does not fill the frame
pub not_past : (s : Load) → ((line place : ℕ) → s.tasks ≤ line → s.ticks line place ≡ 0) → 0 < s.frame → (line : ℕ) → s.tasks ≤ line → eqb (task_total s line) s.frame ≡ false
not_past s beyond more line h = ne_eqb (task_total s line) s.frame (λ e. omega (arith, sum_zero s.processors (λ p. s.ticks line p) (λ p l. beyond line p h)))

-- the first marks are as a test says
abbrev pub Marked : List Bool → (ℕ → Bool) → ℕ → Type 0
Marked xs test n = (i : ℕ) → i < n → get_or xs i false ≡ test i

module _ (test : ℕ → Bool) where
  pub one_marked : (xs : List Bool) (n : ℕ) (b : Bool) → n < length xs → b ≡ test n → Marked xs test n → Marked (set xs n b) test (n + 1)
  one_marked xs n b long is marked i h =
      elim (cases_eq i n) [
        | inl e ↦ ap (λ k. get_or (set xs n b) k false) e ∙ get_or-set_same xs n b false long ∙ is ∙ ap test (sym e)
        | inr ne ↦ get_or-set_other xs n i b false ne ∙ marked i (omega arith)
      ]

  unmarked : (n i : ℕ) → get_or (replicate n false) i false ≡ false
  unmarked n i = elim (cases_lt i n) [ inl low ↦ get_or-replicate n i false false low | inr high ↦ get_or_past (replicate n false) i false (omega (arith, length-replicate n false)) ]

  -- where the test fails from n on, the marks below n tell it all
  pub all_marked : (xs : List Bool) (n size : ℕ) → length xs ≡ n → ((i : ℕ) → n ≤ i → test i ≡ false) → Marked xs test n → (i : ℕ) → get_or (xs ++ drop n (replicate size false)) i false ≡ test i
  all_marked xs n size long past marked i =
      elim (cases_lt i n) [
        | inl low ↦ get_or_append_left xs (drop n (replicate size false)) false i (omega arith) ∙ marked i low
        | inr high ↦
            get_or-append_right xs (drop n (replicate size false)) n i false long high ∙
            ap (λ (ys : List Bool). get_or ys (i - n) false) (drop-replicate n size false) ∙ unmarked (size - n) (i - n) ∙ sym (past i high)
      ]
