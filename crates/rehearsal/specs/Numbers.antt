-- The number of each refusal of a call.
use Rattle.std.specs.Prelude.{ℕ}
use Rattle.builder.specs.Refusals.{number_of as build_number}
use Rattle.sheets.specs.Refusals.{number_of as sheet_number}
use Rattle.rehearsal.specs.declared.calls.CallRefusal.{CallRefusal}
use Rattle.rehearsal.specs.declared.calls.CallRefusal.TheVariants.{Sheet, Build}

abbrev pub number_of : CallRefusal → ℕ
number_of (Sheet refusal) = sheet_number refusal
number_of (Build refusal) = build_number refusal
