-- A question, and what to answer where it fails.
use Rattle.std.specs.Prelude.{ℕ, Bool, cond, ◌&&◌, Err, Result, nat_le}

-- the longest frame, and the most ticks of a pair
abbrev pub most : ℕ
most = 1000000000

abbrev pub from_to : ℕ → ℕ → ℕ → Bool
from_to low high n = nat_le low n && nat_le n high

abbrev pub asked : {X E : Type 0} → Bool → E → Result X E → Result X E
asked holds refusal next = cond holds next (Err refusal)
