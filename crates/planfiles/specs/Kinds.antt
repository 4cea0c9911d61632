-- The byte of each kind of record.
use Rattle.std.specs.Prelude.{◌≡◌, ℕ, None, Result, MatchResult}
use Rattle.planfiles.specs.declared.faults.RecordFault.{RecordFault}
use Rattle.planfiles.specs.declared.faults.RecordFault.TheVariants.{UnknownKind}
use Rattle.planfiles.specs.declared.kinds.Kind.{Kind}
use Rattle.planfiles.specs.declared.kinds.Kind.TheVariants.{SheetHeader, TemplateHeader, Load, Slot, Pair, End}
use Rattle.planfiles.specs.Records.{size_of}

abbrev pub byte_of : Kind → ℕ
byte_of SheetHeader = 1
byte_of TemplateHeader = 2
byte_of Load = 3
byte_of Slot = 4
byte_of Pair = 5
byte_of End = 6

-- the kind of a byte, or a fault where the table has no such byte
abbrev pub Names : ℕ → Result Kind RecordFault → Type 0
Names byte r = MatchResult r (λ kind. byte_of kind ≡ byte) (λ fault. (fault ≡ UnknownKind) × (size_of byte ≡ None))
