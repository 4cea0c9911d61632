use Rattle.std.proofs.Common.{◌≡◌}
use Rattle.pairings.specs.declared.walks.Side.TheVariants.{Processor}
use Rattle.pairings.specs.Union.{Own, Walked, Grows, others}
use Rattle.pairings.proofs.walks.Union.walk.Given as goal

abbrev pub invariant-loop-q : goal.invariant-loop-q
invariant-loop-q l = record {
  walked : Walked 16 l.self.full.tasks l.self.urgent.holders l.sides l.side l.p;
  grows : Grows l.fn.sides l.sides;
  own : l.side ≡ Processor → Own l.sides l.start;
}

abbrev pub decreases-loop-q : goal.decreases-loop-q
decreases-loop-q l = others 16 l.side l.sides
