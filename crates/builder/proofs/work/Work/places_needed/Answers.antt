use Rattle.std.proofs.Common.{◌≡◌, List, ℕ, count_by, ltb, sum_by, take, ◌≤◌, rules, tests, arith}
use Rattle.std.proofs.lemmas.Iterator.{YieldsList-from_slice, YieldsList-from_map}
use Rattle.std.proofs.lemmas.Iterator.Consumers.{sum_by_from_yields_List, fits_by_from_yields_list}
use Rattle.builder.specs.declared.work.Work.{Work}
use Rattle.builder.proofs.Calls.{loads_counted, loads_few}
use Rattle.builder.proofs.work.Work.places_needed.Goals as goal

abbrev loads_in : ℕ → List ℕ → ℕ
loads_in m line = count_by (λ ticks. ltb 0 ticks) (take m line)

few : (work : Work) → sum_by (loads_in work.processors) (take work.tasks work.ticks) ≤ 1024
few work = loads_few work.tasks work.processors work.ticks work.few work.fewer

pub sum-loads-requires-clause-fits : goal.sum-loads-requires-clause-fits
sum-loads-requires-clause-fits c =
    let work = c.args.self.now in
    let lines = take work.tasks work.ticks in
    fits_by_from_yields_list (loads_in work.processors) lines c.map.result _ (YieldsList-from_map _ (loads_in work.processors) (YieldsList-from_slice lines (search rules)) c.map.ensures.closure (λ x r q k. search (rules, tests))) (omega (arith, few work))

total : (c : goal.After-sum-loads) → c.sum-loads.result ≡ sum_by (loads_in c.args.self.now.processors) (take c.args.self.now.tasks c.args.self.now.ticks)
total c =
    let work = c.args.self.now in
    let lines = take work.tasks work.ticks in
    sum_by_from_yields_List (loads_in work.processors) lines c.map.result c.sum-loads.result c.sum-loads.ensures.ran (YieldsList-from_map _ (loads_in work.processors) (YieldsList-from_slice lines (search rules)) c.map.ensures.closure (λ x r q k. search (rules, tests)))

pub overflow_add-result : goal.overflow_add-result
overflow_add-result c = let small : c.sum-loads.result ≤ 1024 = omega (arith, total c, few c.args.self.now) in search rules

pub overflow_add-result-2 : goal.overflow_add-result-2
overflow_add-result-2 c = let small : c.sum-loads.result ≤ 1024 = omega (arith, total c, few c.args.self.now) in search rules

pub returns : goal.returns
returns c = let work = c.args.self.now in omega (arith, total c, loads_counted work.tasks work.processors work.ticks)
