use Rattle.std.proofs.Common.{ℕ, ap, ◌∙◌, min, rules, tests, arith}
use Rattle.std.proofs.lemmas.Iterator.{YieldsList-from_range, YieldsList-from_map}
use Rattle.std.proofs.lemmas.Iterator.Consumers.{fold_from_yields_List}
use Rattle.graphs.specs.Graphs.{at}
use Rattle.builder.specs.Lasting.{holder, lasting}
use Rattle.builder.specs.Lefts.{left_of}
use Rattle.builder.specs.Reading.{across}
use Rattle.builder.proofs.Calls.{least}
use Rattle.builder.proofs.Lasts.{longest_of_lines}
use Rattle.builder.proofs.left.lasting.Laying.longest.Goals as goal

pub returns : goal.returns
returns c =
    let left = c.args.self.now.left.now in
    let work = left.work in
    let s = left_of left in
    let row = c.args.self.now.row.now in
    let by_task : ℕ → ℕ = λ t. lasting s t (holder row t) in
    let by_processor : ℕ → ℕ = λ p. lasting (across s) p (at row p) in
    let tasks = fold_from_yields_List _ min work.frame c.fold-by_tasks.result c.fold-by_tasks.ensures.ran
    (YieldsList-from_map _ by_task (YieldsList-from_range 0 work.tasks work.tasks (cc) (omega arith)) c.map.ensures.closure (λ x r q k. search (rules, tests)))
    (λ a x b q k. search (rules, tests)) in
    let processors = fold_from_yields_List _ min c.fold-by_tasks.result c.fold.result c.fold.ensures.ran
    (YieldsList-from_map _ by_processor (YieldsList-from_range 0 work.processors work.processors (cc) (omega arith)) c.map-2.ensures.closure (λ x r q k. search (rules, tests)))
    (λ a x b q k. search (rules, tests)) in
    longest_of_lines s row c.args.self.now.pairs left.within work.manned c.fold.result (processors ∙ ap (λ a. least by_processor a 0 work.processors) tasks)
