use Rattle.std.proofs.Common.{◌++◌, length, take, Some}
use Rattle.listings.specs.Listing.{Listed, first_line, slots_text}
use Rattle.listings.proofs.layouts.list_template.Given as goal

abbrev pub invariant-loop-slot : goal.invariant-loop-slot
invariant-loop-slot l =
    Listed (first_line l.size.tasks l.size.processors l.size.frame (length l.slots) ++ slots_text l.size.processors (take l.slot-index l.slots)) l.fn.output l.output (Some l.end)
