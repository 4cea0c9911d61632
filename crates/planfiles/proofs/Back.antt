-- Reading what was written gives the sheet back.
use Rattle.std.proofs.Common.{◌≡◌, ℕ, zero, suc, ◌+◌, ◌<◌, ◌≤◌, true, cond, List, [], ◌∷◌, ◌++◌, length, Some, None, Ok, Option, refl, ap, ◌∙◌, ⊎_elim, arith}
use mathlib.Core.Path.{fun_ext}
use Rattle.std.proofs.lemmas.List.{append-nil, append_assoc}
use Rattle.std.proofs.lemmas.Bool.{le-ltb, cases_lt}
use Rattle.std.proofs.lemmas.Bool.Decides.{nat_tests}
use Rattle.sheets.specs.Cells.{written, nothing}
use Rattle.sheets.specs.Loads.{Load}
use Rattle.sheets.specs.Calls.{after_set, with_ticks, most, open_answer}
use Rattle.planfiles.specs.Records.{fields_answer, in_order}
use Rattle.planfiles.specs.Reading.{read_loads, read_sheet}
use Rattle.planfiles.specs.Writing.{four, row_bytes, rows_bytes, sheet_bytes}
use Rattle.planfiles.proofs.Records.{number_four, before, load_none, load_some, order_eq}

-- what every sheet keeps to
pub record Sound (s : Load) : Type 0 where
  pub tasked : (1 ≤ s.tasks) × (s.tasks ≤ 64)
  pub manned : (1 ≤ s.processors) × (s.processors ≤ 16)
  pub framed : (1 ≤ s.frame) × (s.frame ≤ 1000000000)
  pub light : (t p : ℕ) → s.ticks t p ≤ 1000000000
  pub below : (t p : ℕ) → s.tasks ≤ t → s.ticks t p ≡ 0
  pub beside : (t p : ℕ) → s.processors ≤ p → s.ticks t p ≡ 0

-- the pairs before (t, p), and nothing from there on
abbrev cut : (ℕ → ℕ → ℕ) → ℕ → ℕ → ℕ → ℕ → ℕ
cut f t p a b = cond (in_order (Some (a, b)) t p) (f a b) 0

module _ (f : ℕ → ℕ → ℕ) where
  cut_none : nothing ≡ cut f 0 0
  cut_none = fun_ext (λ a. fun_ext (λ b. grind (arith, nat_tests)))

  cut_zero : (t p : ℕ) → f t p ≡ 0 → cut f t p ≡ cut f t (suc p)
  cut_zero t p z = fun_ext (λ a. fun_ext (λ b. grind (arith, nat_tests)))

  cut_some : (t p : ℕ) → written (cut f t p) t p (f t p) ≡ cut f t (suc p)
  cut_some t p = fun_ext (λ a. fun_ext (λ b. grind (arith, nat_tests)))

  cut_row : (m t : ℕ) → ((a b : ℕ) → m ≤ b → f a b ≡ 0) → cut f t m ≡ cut f (suc t) 0
  cut_row m t z = fun_ext (λ a. fun_ext (λ b. grind (arith, nat_tests, z a b)))

  cut_all : (n : ℕ) → ((a b : ℕ) → n ≤ a → f a b ≡ 0) → cut f n 0 ≡ f
  cut_all n z = fun_ext (λ a. fun_ext (λ b. grind (arith, nat_tests, z a b)))

order_step : (last : Option (ℕ × ℕ)) (t p : ℕ) → in_order last t p ≡ true → in_order last t (suc p) ≡ true
order_step None t p o = refl
order_step (Some l) t p o = grind (arith, nat_tests)

order_row : (last : Option (ℕ × ℕ)) (t p : ℕ) → in_order last t p ≡ true → in_order last (suc t) 0 ≡ true
order_row None t p o = refl
order_row (Some l) t p o = grind (arith, nat_tests)

-- a load that fits, after the pair before, is taken
fits_in : (s : Load) (last : Option (ℕ × ℕ)) (t p x : ℕ) → t < s.tasks → p < s.processors → x ≤ most → 1 ≤ x → in_order last t p ≡ true →
    (fields_answer s last t p x ≡ Ok tt) × (after_set s t p x ≡ with_ticks s (written s.ticks t p x))
fits_in s last t p x ht hp light hx o = (grind (arith, nat_tests), grind (arith, nat_tests))

-- the reader has the pairs before (t, p)
record Reached (s : Load) (t p : ℕ) : Type 0 where
  last : Option (ℕ × ℕ)
  at : ℕ
  order : in_order last t p ≡ true
  reads : (rest : List ℕ) → read_loads (with_ticks s nothing) None 7 (before s.ticks s.processors t p ++ rest) ≡ read_loads (with_ticks s (cut s.ticks t p)) last at rest

module _ (s : Load) (sound : Sound s) where
  start : Reached s 0 0
  start = record { last = None; at = 7; order = refl; reads = λ rest. ap (λ g. read_loads (with_ticks s g) None 7 rest) (cut_none s.ticks) }

  no_load : (t p : ℕ) → s.ticks t p ≡ 0 → Reached s t p → Reached s t (suc p)
  no_load t p z r =
      record {
        last = r.last;
        at = r.at;
        order = order_step r.last t p r.order;
        reads = λ rest. rw (load_none s.ticks t p z, append-nil (row_bytes s.ticks t p), r.reads rest, cut_zero s.ticks t p z) refl;
      }

  a_load : (t p : ℕ) → t < s.tasks → p < s.processors → 1 ≤ s.ticks t p → Reached s t p → Reached s t (suc p)
  a_load t p ht hp hx r =
      let x = s.ticks t p in
      let rows = rows_bytes s.ticks s.processors t in
      let row = row_bytes s.ticks t p in
      let this : List ℕ = 3 ∷ t ∷ p ∷ four (s.ticks t p) in
      let small : s.ticks t p < 4294967296 = omega (arith, sound.light t p) in
      let fits = fits_in (with_ticks s (cut s.ticks t p)) r.last t p x ht hp (sound.light t p) hx r.order in
      record {
        last = Some (t, p);
        at = r.at + 7;
        order = order_eq (t, p) (suc p) (omega arith);
        reads = λ rest.
            rw (load_some s.ticks t p x refl hx, append_assoc rows (row ++ this) rest, append_assoc row this rest, ← append_assoc rows row (this ++ rest))
            (r.reads (this ++ rest) ∙ rw (number_four x small, fits.0, fits.1, cut_some s.ticks t p) refl);
      }

  reach_row : (t p : ℕ) → t < s.tasks → p ≤ s.processors → Reached s t 0 → Reached s t p
  reach_row t zero ht hp r = r
  reach_row t (suc p) ht hp r =
      let q = reach_row t p ht (omega arith) r in
      ⊎_elim (λ h. a_load t p ht hp h q) (λ h. no_load t p (omega arith) q) (cases_lt 0 (s.ticks t p))

  next_row : (t : ℕ) → Reached s t s.processors → Reached s (suc t) 0
  next_row t r =
      record {
        last = r.last;
        at = r.at;
        order = order_row r.last t s.processors r.order;
        reads = λ rest. rw (append-nil (rows_bytes s.ticks s.processors (suc t)), r.reads rest, cut_row s.ticks s.processors t sound.beside) refl;
      }

  reach : (t : ℕ) → t ≤ s.tasks → Reached s t 0
  reach zero h = start
  reach (suc t) h = next_row t (reach_row t s.processors h (omega arith) (reach t (omega arith)))

  loads_back : read_loads (with_ticks s nothing) None 7 (rows_bytes s.ticks s.processors s.tasks ++ 6 ∷ []) ≡ Ok s
  loads_back =
      let r = reach s.tasks (omega arith) in
      rw (← append-nil (rows_bytes s.ticks s.processors s.tasks), r.reads (6 ∷ []), cut_all s.ticks s.tasks sound.below) refl

  open_ok : open_answer s.tasks s.processors s.frame ≡ Ok tt
  open_ok =
      let a = sound.tasked in
      let b = sound.manned in
      let d = sound.framed in
      grind (arith, nat_tests)

  pub written_back : read_sheet (sheet_bytes s) ≡ Ok s
  written_back =
      let n = s.tasks in
      let m = s.processors in
      let l = s.frame in
      let tail : List ℕ = rows_bytes s.ticks s.processors s.tasks ++ 6 ∷ [] in
      let fits : s.frame < 4294967296 = omega (arith, sound.framed.1) in
      let long : 6 ≤ length (s.tasks ∷ s.processors ∷ (four s.frame ++ (rows_bytes s.ticks s.processors s.tasks ++ 6 ∷ []))) = omega arith in
      rw (number_four l fits, le-ltb (length (n ∷ m ∷ (four l ++ tail))) 6 long, open_ok) loads_back
