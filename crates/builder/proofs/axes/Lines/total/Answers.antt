use Rattle.std.proofs.Common.{◌∙◌, rules, tests, arith}
use Rattle.std.specs.List.{range_with_len}
use Rattle.std.proofs.lemmas.Iterator.{YieldsList-from_range, YieldsList-from_map}
use Rattle.std.proofs.lemmas.Iterator.Consumers.{sum_by_from_yields_List}
use Rattle.std.proofs.lemmas.Iterator.Adapters.{fits_from_length, at_most_from_yields_List}
use Rattle.std.proofs.lemmas.List.FromFn.{length-range_with_len}
use Rattle.builder.proofs.Calls.{sum_range}
use Rattle.builder.proofs.axes.Lines.total.Goals as goal

pub sum-requires-clause-fits : goal.sum-requires-clause-fits
sum-requires-clause-fits g c =
    let few = length-range_with_len 0 c.places.result in
    fits_from_length _ _ 64 _ (at_most_from_yields_List (YieldsList-from_range 0 c.places.result c.places.result (cc) (omega arith)) (omega (arith, c.places.ensures.few))) c.map.ensures.closure (omega arith) (λ x r q k. search (rules, tests))

pub returns : goal.returns
returns g c =
    let s = g.Self.Lines.load c.args.self.now in
    sum_by_from_yields_List (λ p. s.ticks c.args.line p) (range_with_len 0 c.places.result) c.map.result c.sum.result c.sum.ensures.ran (YieldsList-from_map _ (λ p. s.ticks c.args.line p) (YieldsList-from_range 0 c.places.result c.places.result (cc) (omega arith)) c.map.ensures.closure (λ x r q k. search (rules, tests))) ∙
    sum_range (λ p. s.ticks c.args.line p) c.places.result s.processors c.places.ensures.is
