-- The number of each refusal of a build.
use Rattle.std.specs.Prelude.{ℕ}
use Rattle.builder.specs.declared.refusals.BuildRefusal.{BuildRefusal}
use Rattle.builder.specs.declared.refusals.BuildRefusal.TheVariants.{NoPlan, NoRoom}

abbrev pub number_of : BuildRefusal → ℕ
number_of (NoPlan line) = 7
number_of NoRoom = 8
