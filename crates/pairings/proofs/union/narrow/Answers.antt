use Rattle.std.proofs.Common.{rules, None}
use Rattle.graphs.specs.Graphs.{at}
use Rattle.pairings.proofs.Making.{made_each}
use Rattle.pairings.proofs.union.narrow.Goals as goal

pub returns-clause-same : goal.returns-clause-same
returns-clause-same g c = λ k l. made_each _ (at c.args.row.now) _ (λ i r q e. search rules) _ _ c.from_fn.ensures.items k l None
