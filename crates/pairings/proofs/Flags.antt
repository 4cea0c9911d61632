-- A table of flags, none of them set.
use Rattle.std.proofs.Common.{◌≡◌, ℕ, false, replicate}
use Rattle.graphs.specs.Search.{flag}
use Rattle.pairings.proofs.Rows.{all_same}

pub unmarked : (n t : ℕ) → flag (replicate n false) t ≡ false
unmarked n t = all_same n t false
