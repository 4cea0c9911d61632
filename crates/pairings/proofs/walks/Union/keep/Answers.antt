use Rattle.std.proofs.Common.{rules, None}
use Rattle.graphs.specs.Graphs.{at}
use Rattle.pairings.specs.Union.{kept, side_at}
use Rattle.pairings.proofs.Making.{made_each}
use Rattle.pairings.proofs.walks.Union.keep.Goals as goal

pub returns-clause-kept : goal.returns-clause-kept
returns-clause-kept c = λ k l. made_each _ (λ p. kept (side_at c.args.sides.now p) (at c.args.self.now.urgent.tasks p) (at c.args.self.now.full.tasks p)) _ (λ i r q e. search rules) _ _ c.from_fn.ensures.items k l None
