use Rattle.std.proofs.Common.{rules, arith}
use Rattle.pairings.proofs.Settling.{put_here, walk_starts, walk_on, walk_ends, walk_grows, grows_put, lead_near, lead_fits, fewer_others}
use Rattle.pairings.proofs.walks.Union.walk.Goals as goal

pub loop-q-init : goal.loop-q-init
loop-q-init c = record {
  walked = walk_starts c.args.self.now.joint _ _ c.requires.near c.requires.shut c.requires.first c.requires.free;
  grows = grows_put c.args.sides.now c.args.start (omega (arith, c.requires.near, c.requires.shut.wide)) _ c.requires.free;
  own = λ e. cc (put_here c.args.sides.now c.args.start (omega (arith, c.requires.near, c.requires.shut.wide)) c.args.side);
}

pub loop-q-smaller : goal.loop-q-smaller
loop-q-smaller c = fewer_others _ _ (lead_fits c.args.self.now.joint c.loop-q.invariant.walked _ c.in-Some.ensures) _ 16 (lead_near c.args.self.now.joint c.loop-q.invariant.walked _ c.in-Some.ensures) (λ e. search rules)

pub loop-q-preserved : goal.loop-q-preserved
loop-q-preserved c = let grows = walk_grows c.args.self.now.joint c.loop-q.invariant.walked _ c.in-Some.ensures in record {
  walked = walk_on c.args.self.now.joint c.loop-q.invariant.walked _ c.in-Some.ensures;
  grows = λ q o. grows q (c.loop-q.invariant.grows q o);
  own = λ e. grows _ (c.loop-q.invariant.own e);
}

pub returns-clause-shut : goal.returns-clause-shut
returns-clause-shut c = walk_ends c.args.self.now.joint c.loop-q.invariant.walked (λ q o lead. absurd (c.in_default.ensures q lead))
