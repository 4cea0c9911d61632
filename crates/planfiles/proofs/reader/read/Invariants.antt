use Rattle.std.proofs.Common.{◌≡◌, ◌-◌, ◌≤◌, length}
use Rattle.sheets.specs.Sheets.{load_of}
use Rattle.planfiles.specs.Reading.{read_loads, read_sheet}
use Rattle.planfiles.proofs.reader.read.Given as goal

abbrev pub invariant-loop-sheet : goal.invariant-loop-sheet
invariant-loop-sheet l =
    (length l.rest ≤ length l.bytes)
    × (read_loads (load_of l.sheet) l.last (length l.bytes - length l.rest) l.rest ≡ read_sheet l.bytes)

abbrev pub decreases-loop-sheet : goal.decreases-loop-sheet
decreases-loop-sheet l = length l.rest
