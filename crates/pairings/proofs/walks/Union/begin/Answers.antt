use Rattle.std.proofs.Common.{arith}
use Rattle.pairings.proofs.Flipping.{flip_below}
use Rattle.pairings.proofs.walks.Union.begin.Goals as goal

pub bounds-self-from : goal.bounds-self-from
bounds-self-from c = let h = flip_below c.args.self.now.urgent.both c.args.p _ c.in-Some.is in omega arith
