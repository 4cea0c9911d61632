-- The bytes that a template is listed as.
use Rattle.std.specs.Prelude.{◌≡◌, ℕ, zero, suc, ◌<◌, ◌≤◌, List, [], ◌∷◌, ◌++◌, length, drop, Some, None, codes, decimal, Option}
use Rattle.std.specs.List.{flat_map}
use Rattle.builder.specs.declared.slots.Slot.{Slot}
use Rattle.graphs.specs.Graphs.{Row, at}

-- the byte that ends a line
abbrev pub line_end : List ℕ
line_end = 10 ∷ []

-- a blank and the task's number, or a blank and a dash where it is idle
abbrev pub entry_text : Option ℕ → List ℕ
entry_text (Some t) = codes " " ++ decimal t
entry_text None = codes " -"

-- the entries of the processors below p
abbrev pub entries_text : Row → ℕ → List ℕ
entries_text row zero = []
entries_text row (suc p) = entries_text row p ++ entry_text (at row p)

-- a slot's ticks, and who has each of m processors
abbrev pub slot_line : ℕ → Slot → List ℕ
slot_line m s = decimal s.ticks ++ (entries_text s.row m ++ line_end)

-- a line for each slot
abbrev pub slots_text : ℕ → List Slot → List ℕ
slots_text m slots = flat_map (slot_line m) slots

-- the frame, and how many tasks, processors and slots there are
abbrev pub first_line : ℕ → ℕ → ℕ → ℕ → List ℕ
first_line n m l k =
    codes "frame " ++ (decimal l ++ (codes " tasks " ++ (decimal n ++ (codes " processors " ++ (decimal m ++ (codes " slots " ++ (decimal k ++ line_end)))))))

-- n tasks, m processors, a frame of l ticks
abbrev pub template_text : ℕ → ℕ → ℕ → List Slot → List ℕ
template_text n m l slots = first_line n m l (length slots) ++ slots_text m slots

-- the text stands in the first places and the later ones are as they were, or it is too long and nothing is changed
abbrev pub Listed : List ℕ → List ℕ → List ℕ → Option ℕ → Type 0
Listed text output output' (Some k) = (k ≡ length text) × (k ≤ length output) × (output' ≡ text ++ drop k output)
Listed text output output' None = (length output < length text) × (output' ≡ output)
