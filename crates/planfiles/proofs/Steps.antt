-- A load record in the reader: what is left to read after it, and where.
use Rattle.std.proofs.Common.{◌≡◌, ℕ, ◌+◌, ◌-◌, ◌≤◌, List, [], ◌∷◌, length, get_or, take, drop, drop-cons, Some, Ok, Option, sym, ap, ◌∙◌, arith}
use Rattle.std.proofs.lemmas.List.{length-drop, take_rest}
use Rattle.sheets.specs.Loads.{Load}
use Rattle.sheets.specs.Calls.{after_set}
use Rattle.planfiles.specs.Records.{number, fields_answer}
use Rattle.planfiles.specs.Reading.{number_at, on, read_loads}

-- the fields of a load are passed, and what it leaves
abbrev pub Passes : Load → Option (ℕ × ℕ) → List ℕ → Type 0
Passes s last body = fields_answer s last (get_or body 0 0) (get_or body 1 0) (number_at body 2) ≡ Ok tt

abbrev pub left : Load → List ℕ → Load
left s body = after_set s (get_or body 0 0) (get_or body 1 0) (number_at body 2)

abbrev pub pair : List ℕ → ℕ × ℕ
pair body = (get_or body 0 0, get_or body 1 0)

read_load : (s : Load) (last : Option (ℕ × ℕ)) (at : ℕ) (body : List ℕ) → 6 ≤ length body → Passes s last body →
    read_loads s last at (3 ∷ body) ≡ read_loads (left s body) (Some (pair body)) (at + 7) (drop 6 body)
read_load s last at [] long passed = absurd (omega arith)
read_load s last at (t ∷ []) long passed = absurd (omega arith)
read_load s last at (t ∷ p ∷ []) long passed = absurd (omega arith)
read_load s last at (t ∷ p ∷ a ∷ []) long passed = absurd (omega arith)
read_load s last at (t ∷ p ∷ a ∷ b ∷ []) long passed = absurd (omega arith)
read_load s last at (t ∷ p ∷ a ∷ b ∷ c ∷ []) long passed = absurd (omega arith)
read_load s last at (t ∷ p ∷ a ∷ b ∷ c ∷ d ∷ rest) long passed =
    ap (λ v. on v at (read_loads (after_set s t p (number a b c d)) (Some (t, p)) (at + 7) rest)) passed

-- what is left to read after a load, with its place
pub read_on : (s s' : Load) (last : Option (ℕ × ℕ)) (all bs body : List ℕ) → 3 ≡ get_or bs 0 0 → body ≡ drop 1 bs → length body + 1 ≡ length bs →
    6 ≤ length body → length bs ≤ length all → Passes s last body → s' ≡ left s body →
    let rest = take (length body - 6) (drop 6 body) in
    (length rest ≤ length all) × (read_loads s' (Some (pair body)) (length all - length rest) rest ≡ read_loads s last (length all - length bs) bs)
read_on s s' last all bs body e f long six within passed is =
    let front : bs ≡ 3 ∷ body = rw (e, f) (drop-cons bs 0 0 (omega arith)) in
    let n : length (drop 6 body) ≡ length body - 6 = length-drop 6 body in
    let place : length all - length (drop 6 body) ≡ length all - length bs + 7 = omega arith in
    rw (take_rest body 6) (
      omega arith,
      rw (is, place) (sym (read_load s last (length all - length bs) body six passed) ∙ sym (ap (read_loads s last (length all - length bs)) front)),
    )
