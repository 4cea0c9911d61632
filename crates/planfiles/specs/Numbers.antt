-- The number of each fault of a file, and the number underneath it.
use Rattle.std.specs.Prelude.{ℕ, Some, None, Option}
use Rattle.sheets.specs.Refusals.{number_of as refusal_number}
use Rattle.planfiles.specs.declared.faults.ByteFault.TheVariants.{CutShort}
use Rattle.planfiles.specs.declared.faults.RecordFault.TheVariants.{UnknownKind, OutOfPlace, OutOfOrder}
use Rattle.planfiles.specs.declared.faults.PlanFault.TheVariants.{SheetRefused}
use Rattle.planfiles.specs.declared.faults.Layer.{Layer}
use Rattle.planfiles.specs.declared.faults.Layer.TheVariants.{Bytes, Records, Plan}
use Rattle.planfiles.specs.declared.faults.Fault.{Fault}

abbrev layer_number : Layer → ℕ
layer_number (Bytes CutShort) = 21
layer_number (Records UnknownKind) = 22
layer_number (Records OutOfPlace) = 23
layer_number (Records OutOfOrder) = 24
layer_number (Plan p) = 25

abbrev pub number_of : Fault → ℕ
number_of f = layer_number f.layer

abbrev layer_underneath : Layer → Option ℕ
layer_underneath (Bytes b) = None
layer_underneath (Records r) = None
layer_underneath (Plan (SheetRefused refusal)) = Some (refusal_number refusal)

-- the number of what refused the record's fields, where something did
abbrev pub underneath : Fault → Option ℕ
underneath f = layer_underneath f.layer
