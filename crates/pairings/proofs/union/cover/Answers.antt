use Rattle.std.proofs.Common.{◌≤◌, ap, ◌∙◌, subst, arith, lit<, lit≤}
use Rattle.graphs.specs.Graphs.{at}
use Rattle.pairings.specs.Rules.{marking}
use Rattle.pairings.specs.Union.{Joint}
use Rattle.pairings.proofs.Servings.{cover_serving, serving_tasks, serving_processors}
use Rattle.pairings.proofs.Joining.{found_below, found_same, found_distinct, union_joint, union_cover}
use Rattle.pairings.proofs.union.cover.Goals as goal

pub returns-in_err-tasks-clause-answer : goal.returns-in_err-tasks-clause-answer
returns-in_err-tasks-clause-answer g c = rw c.from_residual.ensures (λ other cover. serving_tasks _ _ _ _ (cover_serving _ _ other cover) c.in_err-tasks.ensures.answer)

pub returns-in_err-holders-clause-answer : goal.returns-in_err-holders-clause-answer
returns-in_err-holders-clause-answer g c = rw c.from_residual-in_err-holders.ensures (λ other cover. serving_processors _ _ _ _ (cover_serving _ _ other cover) c.in_err-holders.ensures.answer)

pub narrow-requires : goal.narrow-requires
narrow-requires g c = (lit< tt, (lit≤ tt, found_below c.in_ok-tasks.ensures.answer 256 (omega (arith, c.seconds.ensures.small.firsts_few))))

pub of_tasks-requires : goal.of_tasks-requires
of_tasks-requires g c = found_distinct c.in_ok-tasks.ensures.answer 16 _ c.narrow.ensures.wide (omega (arith, c.seconds.ensures.is)) c.narrow.ensures.same 64 c.seconds.ensures.small.firsts_few

pub narrow-requires-2 : goal.narrow-requires-2
narrow-requires-2 g c = (lit< tt, (lit≤ tt, found_below c.in_ok-holders.ensures.answer 256 (omega (arith, c.seconds.ensures.small.seconds_few))))

pub of_holders-requires : goal.of_holders-requires
of_holders-requires g c = found_distinct c.in_ok-holders.ensures.answer 64 _ c.narrow-2.ensures.wide c.seconds.ensures.small.firsts_few c.narrow-2.ensures.same 16 (omega (arith, c.seconds.ensures.is))

pub invariant_of-union : goal.invariant_of-union
invariant_of-union g c = record { joint = subst (λ n. Joint 64 n c.of_holders.result.tasks c.of_tasks.result.holders) c.of_tasks.result.wide (union_joint c.of_tasks.result.both c.of_holders.result.both) }

pub returns-clause-answer : goal.returns-clause-answer
returns-clause-answer g c =
    let few : (g.G.Graph.shape c.args.graph.now).seconds ≤ 16 = omega (arith, c.seconds.ensures.is) in
    union_cover {marks = marking c.args.marks.now} c.in_ok-tasks.ensures.answer c.in_ok-holders.ensures.answer c.of_tasks.result.both c.of_holders.result.both
    (λ p. ap (λ r. at r p) c.of_tasks.ensures ∙ found_same c.in_ok-tasks.ensures.answer 16 _ c.narrow.ensures.wide few c.narrow.ensures.same p)
    (λ t. ap (λ r. at r t) c.of_holders.ensures ∙ found_same c.in_ok-holders.ensures.answer 64 _ c.narrow-2.ensures.wide c.seconds.ensures.small.firsts_few c.narrow-2.ensures.same t)
    c.settle-sides.ensures.shut c.settle-sides.ensures.ends (omega (arith, c.seconds.ensures.is)) few _ c.keep.ensures.wide c.keep.ensures.kept few c.keep.ensures.wide
