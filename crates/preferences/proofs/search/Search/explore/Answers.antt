use Rattle.std.proofs.Common.{arith}
use Rattle.preferences.proofs.Reaching.{ticked_trailed, ticked_room, left_less, left_same}
use Rattle.preferences.proofs.Exploring.{exploring_none, exploring_on, exploring_all}
use Rattle.preferences.proofs.search.Search.explore.Goals as goal

pub loop-x-init : goal.loop-x-init
loop-x-init g c = exploring_none _ _ _ _ _ (omega (arith, c.args.self.now.few, c.args.self.now.inside))

pub expand-requires-clause-trailed : goal.expand-requires-clause-trailed
expand-requires-clause-trailed g c = ticked_trailed _ _ _ c.tick.ensures _ _ _ _ c.loop-x.invariant.trailed

pub expand-requires-clause-room : goal.expand-requires-clause-room
expand-requires-clause-room g c = ticked_room _ _ _ c.tick.ensures _ _ _ _ c.loop-x.invariant.trailed

pub loop-x-smaller : goal.loop-x-smaller
loop-x-smaller g c = omega (arith, left_less _ _ _ c.tick.ensures, left_same _ _ c.expand.ensures.more)

pub loop-x-preserved : goal.loop-x-preserved
loop-x-preserved g c = exploring_on _ _ _ _ _ _ _ _ _ c.loop-x.invariant c.tick.ensures c.expand.ensures.trailed c.expand.ensures.more c.expand.ensures.expanded

pub returns-clause-closed : goal.returns-clause-closed
returns-clause-closed g c = exploring_all _ _ _ _ _ _ c.args.self.now.wide c.args.self.now.flipped c.loop-x.invariant c.in_default.ensures
