-- The bytes that a sheet is written as.
use Rattle.std.specs.Prelude.{ℕ, zero, suc, ◌/◌, ◌%◌, cond, List, [], ◌∷◌, ◌++◌, nat_lt}
use Rattle.sheets.specs.Loads.{Load}

-- a number in four bytes, the high one first
abbrev pub four : ℕ → List ℕ
four x = (x / 16777216 % 256) ∷ (x / 65536 % 256) ∷ (x / 256 % 256) ∷ (x % 256) ∷ []

-- a pair's load record, if it has ticks
abbrev pub load_bytes : (ℕ → ℕ → ℕ) → ℕ → ℕ → List ℕ
load_bytes f t p = cond (nat_lt 0 (f t p)) (3 ∷ t ∷ p ∷ four (f t p)) []

-- the loads of task t on the processors below p
abbrev pub row_bytes : (ℕ → ℕ → ℕ) → ℕ → ℕ → List ℕ
row_bytes f t zero = []
row_bytes f t (suc p) = row_bytes f t p ++ load_bytes f t p

-- the loads of the tasks below t on m processors
abbrev pub rows_bytes : (ℕ → ℕ → ℕ) → ℕ → ℕ → List ℕ
rows_bytes f m zero = []
rows_bytes f m (suc t) = rows_bytes f m t ++ row_bytes f t m

abbrev pub header_bytes : Load → List ℕ
header_bytes s = 1 ∷ s.tasks ∷ s.processors ∷ four s.frame

abbrev pub sheet_bytes : Load → List ℕ
sheet_bytes s = header_bytes s ++ (rows_bytes s.ticks s.processors s.tasks ++ 6 ∷ [])
