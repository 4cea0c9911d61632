-- A table of one value, and what an entry holds.
use Rattle.std.proofs.Common.{◌≡◌, ℕ, zero, suc, true, false, get_or, replicate, Some, None, Option, refl}
use Rattle.std.specs.Prelude.{IsSome, IsNone}
use Rattle.std.proofs.lemmas.Bool.{both_ways}

pub filled : {A : Type 0} (a : A) (n b : ℕ) → get_or (replicate n a) b a ≡ a
filled a zero b = refl
filled a (suc n) zero = refl
filled a (suc n) (suc b) = filled a n b

pub some_of : {A : Type 0} (o : Option A) → IsSome o → (a : A) × (o ≡ Some a)
some_of None some = absurd (both_ways false refl some)
some_of (Some a) some = (a, refl)

pub none_of : {A : Type 0} (o : Option A) → IsNone o → o ≡ None
none_of None none = refl
none_of (Some a) none = absurd (both_ways true none refl)
