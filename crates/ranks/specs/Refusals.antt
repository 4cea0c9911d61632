-- The number of the refusal of a rank list.
use Rattle.std.specs.Prelude.{ℕ}
use Rattle.ranks.specs.declared.refusals.RankRefusal.{RankRefusal}
use Rattle.ranks.specs.declared.refusals.RankRefusal.TheVariants.{NotEachOnce}

abbrev pub number_of : RankRefusal → ℕ
number_of NotEachOnce = 20
