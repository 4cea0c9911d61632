use Rattle.pairings.specs.Union.{Shut, EndsOwn}
use Rattle.pairings.proofs.walks.Union.settle.Given as goal

abbrev pub invariant-loop-p : goal.invariant-loop-p
invariant-loop-p l = Shut 16 l.self.full.tasks l.self.urgent.holders l.sides × EndsOwn l.self.urgent.tasks l.sides l.p

abbrev pub invariant-loop-p-2 : goal.invariant-loop-p-2
invariant-loop-p-2 l = Shut 16 l.self.full.tasks l.self.urgent.holders l.sides × EndsOwn l.self.urgent.tasks l.sides l.count
