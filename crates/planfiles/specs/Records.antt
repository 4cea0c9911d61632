-- What one record is, and the questions that it is asked.
use Rattle.std.specs.Prelude.{ℕ, ◌+◌, ◌*◌, Bool, true, cond, ◌&&◌, ◌||◌, List, [], ◌∷◌, length, Some, None, Ok, Err, Option, Result, ◌==◌, nat_le, nat_lt}
use Rattle.sheets.specs.Loads.{Load}
use Rattle.sheets.specs.Calls.{Answer, set_answer}
use Rattle.planfiles.specs.declared.faults.ByteFault.TheVariants.{CutShort}
use Rattle.planfiles.specs.declared.faults.RecordFault.TheVariants.{UnknownKind, OutOfOrder}
use Rattle.planfiles.specs.declared.faults.PlanFault.TheVariants.{SheetRefused}
use Rattle.planfiles.specs.declared.faults.Layer.{Layer}
use Rattle.planfiles.specs.declared.faults.Layer.TheVariants.{Bytes, Records, Plan}

-- four bytes, the high one first
abbrev pub number : ℕ → ℕ → ℕ → ℕ → ℕ
number a b c d = a * 16777216 + b * 65536 + c * 256 + d

-- how many bytes follow each kind of the table
abbrev pub size_of : ℕ → Option ℕ
size_of k = cond (k == 1 || k == 2 || k == 3) (Some 6) (cond (k == 4) (Some 4) (cond (k == 5) (Some 2) (cond (k == 6) (Some 0) None)))

abbrev pub Passed : Type 0
Passed = Result (Unit {0}) Layer

abbrev pub sized : Option ℕ → List ℕ → Passed
sized None body = Err (Records UnknownKind)
sized (Some n) body = cond (nat_lt (length body) n) (Err (Bytes CutShort)) (Ok tt)

-- there is a kind byte, of the table, and its body is whole
abbrev pub whole_answer : List ℕ → Passed
whole_answer [] = Err (Bytes CutShort)
whole_answer (k ∷ body) = sized (size_of k) body

-- a pair comes after the load before, by task and then processor
abbrev pub in_order : Option (ℕ × ℕ) → ℕ → ℕ → Bool
in_order None t p = true
in_order (Some l) t p = nat_lt l.0 t || (l.0 == t && nat_lt l.1 p)

-- what a sheet's own refusal is in a file
abbrev pub planned : Answer → Passed
planned (Ok _) = Ok tt
planned (Err u) = Err (Plan (SheetRefused u))

-- the second question is asked where the first is passed
abbrev pub and_then : Passed → Passed → Passed
and_then (Ok _) next = next
and_then (Err l) next = Err l

abbrev pub fields_answer : Load → Option (ℕ × ℕ) → ℕ → ℕ → ℕ → Passed
fields_answer s last t p x = and_then (planned (set_answer s t p x)) (cond (nat_le 1 x && in_order last t p) (Ok tt) (Err (Records OutOfOrder)))
