use Rattle.pairings.proofs.Seeing.{cover_paired}
use Rattle.pairings.proofs.union.UnionRulePairingRule.choose.Goals as goal

pub sound-requires : goal.sound-requires
sound-requires g c = cover_paired _ _ _ c.in_ok-row.ensures.small c.in_ok-row.ensures.answer
