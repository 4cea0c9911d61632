use Rattle.builder.specs.Lefts.{left_of}
use Rattle.builder.proofs.Turns.{SoFar}
use Rattle.builder.proofs.building.lay.Given as goal

abbrev pub invariant-loop-count : goal.invariant-loop-count
invariant-loop-count g l = SoFar (g.R.PairingRule.admits l.rule) (left_of l.initial.left) l.initial.room l.room (left_of l.left) l.pairing.row l.count
