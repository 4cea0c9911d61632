-- A file that is accepted is the bytes of the sheet that it gives.
use Rattle.std.proofs.Common.{◌≡◌, ℕ, suc, ◌+◌, ◌<◌, ◌≤◌, true, eqb, List, [], ◌∷◌, ◌++◌, length, get_or, drop, IfOk, Some, None, Ok, Err, Option, Result, sym, refl, ap, ◌∙◌, subst, ⊎_elim, arith}
use Rattle.std.proofs.lemmas.List.{append-nil, get_or-drop}
use Rattle.std.proofs.lemmas.Bool.Decides.{nat_tests}
use Rattle.std.proofs.lemmas.Bool.{eqb-true, cases_Bool, cond-true, cond-false}
use Rattle.sheets.specs.Cells.{written}
use Rattle.sheets.specs.Loads.{Load}
use Rattle.sheets.specs.Calls.{after_set, with_ticks, most}
use Rattle.planfiles.specs.declared.faults.Fault.{Fault}
use Rattle.planfiles.specs.Records.{number, fields_answer, in_order, Passed}
use Rattle.planfiles.specs.Reading.{header_answer, opened_load, Read, on, other, read_loads, read_sheet, loaded}
use Rattle.sheets.specs.Sheets.{load_of}
use Rattle.sheets.specs.declared.sheet.Sheet.{Sheet}
use Rattle.planfiles.specs.Writing.{rows_bytes, header_bytes, sheet_bytes}
use Rattle.planfiles.proofs.Records.{four_number, skip, upto, Clean, Within, order_lt, clean_more, taken_more}

on_ok : (w : Passed) (at : ℕ) (next : Read) (s : Load) → on w at next ≡ Ok s → (w ≡ Ok tt) × (next ≡ Ok s)
on_ok (Ok x) at next s e = (refl, e)
on_ok (Err l) at next s e = cc

other_ok : (s s' : Load) (at k : ℕ) (body : List ℕ) → other s at k body ≡ Ok s' → (k ≡ 6) × (body ≡ []) × (s ≡ s')
other_ok s s' at k body e = grind (arith, nat_tests)

-- what a load's fields have passed
record Fields (s : Load) (last : Option (ℕ × ℕ)) (t p x : ℕ) : Type 0 where
  task : t < s.tasks
  processor : p < s.processors
  light : x ≤ most
  some : 1 ≤ x
  order : in_order last t p ≡ true
  after : after_set s t p x ≡ with_ticks s (written s.ticks t p x)

fields_ok : (s : Load) (last : Option (ℕ × ℕ)) (t p x : ℕ) → fields_answer s last t p x ≡ Ok tt → Fields s last t p x
fields_ok s last t p x e =
    record {
      task = grind (arith, nat_tests);
      processor = grind (arith, nat_tests);
      light = grind (arith, nat_tests);
      some = grind (arith, nat_tests);
      order = grind (arith, nat_tests);
      after = grind (arith, nat_tests);
    }

last_within : (n m : ℕ) (last : Option (ℕ × ℕ)) → Within n m last → in_order last n 0 ≡ true
last_within n m None w = refl
last_within n m (Some l) w = order_lt l n 0 w.0

-- what has been read, as bytes, and what is left
abbrev all_bytes : Load → Option (ℕ × ℕ) → List ℕ → List ℕ
all_bytes s last bs = header_bytes s ++ (upto s.ticks s.processors last ++ bs)

ended : (s : Load) (last : Option (ℕ × ℕ)) (at k : ℕ) (body : List ℕ) → Clean s.ticks last → Within s.tasks s.processors last → (s' : Load) → other s at k body ≡ Ok s' → all_bytes s last (k ∷ body) ≡ sheet_bytes s'
ended s last at k body clean w s' e =
    let q = other_ok s s' at k body e in
    let n = s.tasks in
    let m = s.processors in
    rw (q.0, q.1, ← q.2, skip s.ticks n m n 0 last clean w (last_within n m last w), append-nil (rows_bytes s.ticks m n)) refl

pub accepted_loads : (s : Load) (last : Option (ℕ × ℕ)) (at : ℕ) (bs : List ℕ) → ((i : ℕ) → get_or bs i 0 < 256) → Clean s.ticks last → Within s.tasks s.processors last → (s' : Load) → read_loads s last at bs ≡ Ok s' → all_bytes s last bs ≡ sheet_bytes s'
accepted_loads s last at [] small clean w s' e = cc
accepted_loads s last at (k ∷ []) small clean w s' e = ended s last at k [] clean w s' e
accepted_loads s last at (k ∷ t ∷ []) small clean w s' e = ended s last at k (t ∷ []) clean w s' e
accepted_loads s last at (k ∷ t ∷ p ∷ []) small clean w s' e = ended s last at k (t ∷ p ∷ []) clean w s' e
accepted_loads s last at (k ∷ t ∷ p ∷ a ∷ []) small clean w s' e = ended s last at k (t ∷ p ∷ a ∷ []) clean w s' e
accepted_loads s last at (k ∷ t ∷ p ∷ a ∷ b ∷ []) small clean w s' e = ended s last at k (t ∷ p ∷ a ∷ b ∷ []) clean w s' e
accepted_loads s last at (k ∷ t ∷ p ∷ a ∷ b ∷ c ∷ []) small clean w s' e = ended s last at k (t ∷ p ∷ a ∷ b ∷ c ∷ []) clean w s' e
accepted_loads s last at (k ∷ t ∷ p ∷ a ∷ b ∷ c ∷ d ∷ rest) small clean w s' e =
    let body : List ℕ = t ∷ p ∷ a ∷ b ∷ c ∷ d ∷ rest in
    let x : ℕ = number a b c d in
    let next : Read = read_loads (after_set s t p (number a b c d)) (Some (t, p)) (at + 7) rest in
    let here : Read = on (fields_answer s last t p (number a b c d)) at next in
    ⊎_elim
    (λ y.
    let r = on_ok (fields_answer s last t p x) at next s' (sym (cond-true (eqb k 3) here (other s at k body) y) ∙ e) in
    let q = fields_ok s last t p x r.0 in
    let ih = accepted_loads (with_ticks s (written s.ticks t p x)) (Some (t, p)) (at + 7) rest
    (λ i. small (suc (suc (suc (suc (suc (suc (suc i))))))))
    (clean_more s.ticks t p x last clean q.order) (q.task, q.processor) s'
    (ap (λ v. read_loads v (Some (t, p)) (at + 7) rest) (sym q.after) ∙ r.1) in
    (λ i. all_bytes s last ((eqb-true k 3 y) i ∷ t ∷ p ∷ ((sym (four_number a b c d (small 3) (small 4) (small 5) (small 6))) i ++ rest)))
    ∙ rw (taken_more s.ticks t p x s.tasks s.processors last rest clean w q.order q.some) ih)
    (λ n. ended s last at k body clean w s' (sym (cond-false (eqb k 3) here (other s at k body) n) ∙ e)) (cases_Bool (eqb k 3))

-- the header
header_long : (bs : List ℕ) → header_answer bs ≡ Ok tt → (get_or bs 0 0 ≡ 1) × (7 ≤ length bs)
header_long [] e = cc
header_long (k ∷ body) e = (grind (arith, nat_tests), grind (arith, nat_tests))

seven : (bs : List ℕ) → 7 ≤ length bs → bs ≡ get_or bs 0 0 ∷ get_or bs 1 0 ∷ get_or bs 2 0 ∷ get_or bs 3 0 ∷ get_or bs 4 0 ∷ get_or bs 5 0 ∷ get_or bs 6 0 ∷ drop 7 bs
seven [] h = absurd (omega arith)
seven (k ∷ []) h = absurd (omega arith)
seven (k ∷ t ∷ []) h = absurd (omega arith)
seven (k ∷ t ∷ p ∷ []) h = absurd (omega arith)
seven (k ∷ t ∷ p ∷ a ∷ []) h = absurd (omega arith)
seven (k ∷ t ∷ p ∷ a ∷ b ∷ []) h = absurd (omega arith)
seven (k ∷ t ∷ p ∷ a ∷ b ∷ c ∷ []) h = absurd (omega arith)
seven (k ∷ t ∷ p ∷ a ∷ b ∷ c ∷ d ∷ rest) h = refl

small_drop : (n : ℕ) (bs : List ℕ) → ((i : ℕ) → get_or bs i 0 < 256) → (i : ℕ) → get_or (drop n bs) i 0 < 256
small_drop n bs small i = subst (λ v. v < 256) (sym (get_or-drop n bs i 0)) (small (n + i))

-- an accepted file is the bytes of its sheet
pub accepted : (bs : List ℕ) → ((i : ℕ) → get_or bs i 0 < 256) → (s : Load) → read_sheet bs ≡ Ok s → bs ≡ sheet_bytes s
accepted bs small s e =
    let next : Read = read_loads (opened_load bs) None 7 (drop 7 bs) in
    let r = on_ok (header_answer bs) 0 next s e in
    let h = header_long bs r.0 in
    seven bs h.1
    ∙ (λ i. h.0 i ∷ get_or bs 1 0 ∷ get_or bs 2 0 ∷ ((sym (four_number (get_or bs 3 0) (get_or bs 4 0) (get_or bs 5 0) (get_or bs 6 0) (small 3) (small 4) (small 5) (small 6))) i ++ drop 7 bs))
    ∙ accepted_loads (opened_load bs) None 7 (drop 7 bs) (small_drop 7 bs small) (λ a b _. refl) tt s r.1

pub accepted_made : (bs : List ℕ) → ((i : ℕ) → get_or bs i 0 < 256) → (r : Result Sheet Fault) → loaded r ≡ read_sheet bs → IfOk r (λ s. bs ≡ sheet_bytes (load_of s))
accepted_made bs small (Ok s) e = accepted bs small (load_of s) (sym e)
accepted_made bs small (Err f) e = tt
