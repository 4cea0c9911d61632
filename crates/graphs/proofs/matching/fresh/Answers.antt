use Rattle.std.proofs.Common.{◌≡◌, ℕ, ◌<◌, ◌≤◌, true, Some, None, Option, rules, tests, arith}
use Rattle.std.specs.Prelude.{IsSome, IsNone, MatchOption}
use Rattle.std.proofs.lemmas.Iterator.{first_from_Range}
use Rattle.graphs.specs.Graphs.{Shape, Small}
use Rattle.graphs.specs.Search.{Hops, hop_to, Stale, Fresh}
use Rattle.graphs.proofs.matching.fresh.Goals as goal

found : (shape : Shape) (hops : Hops) (a n : ℕ) (r : Option ℕ) → n ≡ shape.seconds → Small shape
    → MatchOption r ((b : ℕ) → 0 ≤ b → b < n → shape.joined a b ≡ true → IsSome (hop_to hops b)) (λ b. (0 ≤ b) × (b < n) × (IsNone (hop_to hops b) × (shape.joined a b ≡ true)) × ((k : ℕ) → 0 ≤ k → k < b → shape.joined a k ≡ true → IsSome (hop_to hops k)))
    → MatchOption r (Stale shape hops a) (λ b. Fresh shape hops a b)
found shape hops a n None same small h = λ b l j. h b (omega arith) (omega arith) j
found shape hops a n (Some b) same small (_, l, (free, edge), _) = record { inside = omega arith; fits = omega (arith, small.seconds_few); unreached = free; edge = edge }

pub returns : goal.returns
returns g c =
    let shape : Shape = g.G.Graph.shape c.args.graph.now in
    found shape c.args.hops.now c.args.a c.seconds.result c.find.result c.seconds.ensures.is c.seconds.ensures.small
    (first_from_Range _ _ _ _ (λ b. IsNone (hop_to c.args.hops.now b) × (shape.joined c.args.a b ≡ true)) (λ b. shape.joined c.args.a b ≡ true → IsSome (hop_to c.args.hops.now b)) c.find.ensures.ran (λ b q k. grind (arith, tests)) (λ b q k. (search rules, λ j. grind (arith, tests))))
