-- The number of each refusal that can be listed, and of a listing's own.
use Rattle.std.specs.Prelude.{ℕ}
use Rattle.builder.specs.Refusals.{number_of as build_number}
use Rattle.planfiles.specs.Numbers.{number_of as fault_number}
use Rattle.sheets.specs.Refusals.{number_of as sheet_number}
use Rattle.templates.specs.Refusals.{number_of as template_number}
use Rattle.listings.specs.declared.refusals.Refusal.{Refusal}
use Rattle.listings.specs.declared.refusals.Refusal.TheVariants.{Sheet, File, Build, Template}
use Rattle.listings.specs.declared.refusals.ListRefusal.{ListRefusal}
use Rattle.listings.specs.declared.refusals.ListRefusal.TheVariants.{OutputTooShort}

abbrev pub number_of : Refusal → ℕ
number_of (Sheet refusal) = sheet_number refusal
number_of (File fault) = fault_number fault
number_of (Build refusal) = build_number refusal
number_of (Template refusal) = template_number refusal

abbrev pub list_number_of : ListRefusal → ℕ
list_number_of OutputTooShort = 26
