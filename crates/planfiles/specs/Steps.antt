-- What the steps of the reader answer, and what they leave.
use Rattle.std.specs.Prelude.{◌≡◌, ℕ, ◌+◌, List, length, drop, Ok, Err, Result, slice_index}
use Rattle.std.specs.Borrow.{Bor}
use Rattle.sheets.specs.Sheets.{load_of}
use Rattle.sheets.specs.declared.sheet.Sheet.{Sheet}
use Rattle.planfiles.specs.declared.faults.Layer.{Layer}
use Rattle.planfiles.specs.declared.kinds.Kind.{Kind}
use Rattle.planfiles.specs.Kinds.{byte_of}
use Rattle.planfiles.specs.Records.{whole_answer}
use Rattle.planfiles.specs.Reading.{header_answer, opened_load}

-- the record at the front: its kind, and the bytes after the kind, which hold the whole body
abbrev pub fronted : List ℕ → Result (Kind × Bor (List ℕ)) Layer → Type 0
fronted bs (Ok f) = (whole_answer bs ≡ Ok tt) × (byte_of f.0 ≡ slice_index bs 0) × (f.1.now ≡ drop 1 bs) × (length f.1.now + 1 ≡ length bs)
fronted bs (Err l) = whole_answer bs ≡ Err l

-- what the reader of the header answers
abbrev pub opened : List ℕ → Sheet → Result (Bor (List ℕ)) Layer → Type 0
opened bs s (Ok x) = (header_answer bs ≡ Ok tt) × (load_of s ≡ opened_load bs) × (x.now ≡ drop 7 bs) × (length x.now + 7 ≡ length bs)
opened bs s (Err l) = header_answer bs ≡ Err l
