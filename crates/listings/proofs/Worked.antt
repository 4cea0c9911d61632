-- A listing, letter by letter.
use Rattle.std.proofs.Common.{◌≡◌, List, [], ◌∷◌, ◌++◌, Some, None, codes, refl}
use Rattle.std.specs.Fmt.{digits}
use Rattle.builder.specs.declared.slots.Slot.{Slot}
use Rattle.listings.specs.Listing.{line_end, template_text}

abbrev pub two_slots : List Slot
two_slots = record { ticks = 5; row = Some 0 ∷ Some 1 ∷ None ∷ [] } ∷ record { ticks = 5; row = None ∷ Some 0 ∷ Some 1 ∷ [] } ∷ []

pub two_listed : template_text 2 3 10 two_slots ≡ codes "frame 10 tasks 2 processors 3 slots 2" ++ line_end ++ codes "5 0 1 -" ++ line_end ++ codes "5 - 0 1" ++ line_end
unfolding digits
two_listed = refl
