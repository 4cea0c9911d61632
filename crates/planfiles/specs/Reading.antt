-- What a list of bytes says.
use Rattle.std.specs.Prelude.{ℕ, ◌+◌, cond, List, [], ◌∷◌, drop, Some, None, Ok, Err, Option, Result, ◌==◌, slice_index}
use Rattle.sheets.specs.Loads.{Load}
use Rattle.sheets.specs.Calls.{unloaded, open_answer, after_set}
use Rattle.sheets.specs.Sheets.{load_of}
use Rattle.sheets.specs.declared.sheet.Sheet.{Sheet}
use Rattle.planfiles.specs.declared.faults.ByteFault.TheVariants.{CutShort}
use Rattle.planfiles.specs.declared.faults.RecordFault.TheVariants.{OutOfPlace}
use Rattle.planfiles.specs.declared.faults.Layer.{Layer}
use Rattle.planfiles.specs.declared.faults.Layer.TheVariants.{Bytes, Records}
use Rattle.planfiles.specs.declared.faults.Fault.{Fault}
use Rattle.planfiles.specs.Records.{number, whole_answer, fields_answer, planned, and_then, Passed}

-- the four bytes from a place on, as a number
abbrev pub number_at : List ℕ → ℕ → ℕ
number_at bs i = number (slice_index bs i) (slice_index bs (i + 1)) (slice_index bs (i + 2)) (slice_index bs (i + 3))

-- the questions of the first record
abbrev pub header_answer : List ℕ → Passed
header_answer bs =
    and_then (whole_answer bs)
    (cond (slice_index bs 0 == 1) (planned (open_answer (slice_index bs 1) (slice_index bs 2) (number_at bs 3))) (Err (Records OutOfPlace)))

-- the load that a header states
abbrev pub opened_load : List ℕ → Load
opened_load bs = unloaded (slice_index bs 1) (slice_index bs 2) (number_at bs 3)

-- what a file says: a load, or a fault
abbrev pub Read : Type 0
Read = Result Load Fault

-- a layer's fault at a place
abbrev pub fault : ℕ → Layer → Read
fault at l = Err (record { place = at; layer = l })

-- what comes next where the questions are passed
abbrev pub on : Passed → ℕ → Read → Read
on (Ok _) at next = next
on (Err l) at next = fault at l

-- after the end record the file is over
abbrev pub over : Load → ℕ → List ℕ → Read
over s at [] = Ok s
over s at (b ∷ bs) = fault at (Records OutOfPlace)

-- what is left of a file after its header: no whole load stands at the front
abbrev pub other : Load → ℕ → ℕ → List ℕ → Read
other s at k body = cond (k == 6) (over s (at + 1) body) (on (whole_answer (k ∷ body)) at (fault at (Records OutOfPlace)))

-- what is left of a file after its header
abbrev pub read_loads : Load → Option (ℕ × ℕ) → ℕ → List ℕ → Read
read_loads s last at [] = fault at (Bytes CutShort)
read_loads s last at (k ∷ []) = other s at k []
read_loads s last at (k ∷ t ∷ []) = other s at k (t ∷ [])
read_loads s last at (k ∷ t ∷ p ∷ []) = other s at k (t ∷ p ∷ [])
read_loads s last at (k ∷ t ∷ p ∷ a ∷ []) = other s at k (t ∷ p ∷ a ∷ [])
read_loads s last at (k ∷ t ∷ p ∷ a ∷ b ∷ []) = other s at k (t ∷ p ∷ a ∷ b ∷ [])
read_loads s last at (k ∷ t ∷ p ∷ a ∷ b ∷ c ∷ []) = other s at k (t ∷ p ∷ a ∷ b ∷ c ∷ [])
read_loads s last at (k ∷ t ∷ p ∷ a ∷ b ∷ c ∷ d ∷ rest) =
    cond (k == 3)
    (on (fields_answer s last t p (number a b c d)) at (read_loads (after_set s t p (number a b c d)) (Some (t, p)) (at + 7) rest))
    (other s at k (t ∷ p ∷ a ∷ b ∷ c ∷ d ∷ rest))

-- what a whole file says
abbrev pub read_sheet : List ℕ → Read
read_sheet bs = on (header_answer bs) 0 (read_loads (opened_load bs) None 7 (drop 7 bs))

-- what a reader's answer says
abbrev pub loaded : Result Sheet Fault → Read
loaded (Ok s) = Ok (load_of s)
loaded (Err f) = Err f
