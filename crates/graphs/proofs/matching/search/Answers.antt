use Rattle.std.proofs.Common.{◌≡◌, subst, arith}
use Rattle.graphs.specs.Graphs.{Shape}
use Rattle.graphs.specs.Search.{Matched, flag}
use Rattle.graphs.proofs.Moving.{matched_none}
use Rattle.graphs.proofs.Hall.{matched_hopeful}
use Rattle.graphs.proofs.matching.search.Goals as goal

pub loop-start-init : goal.loop-start-init
loop-start-init g c = matched_none _ _

pub returns : goal.returns
returns g c =
    let shape : Shape = g.G.Graph.shape c.args.graph.now in
    let all : c.loop-start.start ≡ shape.firsts = omega arith in
    let matched : Matched shape (flag c.args.marked.now) shape.firsts c.loop-start.owner = subst (λ k. Matched shape (flag c.args.marked.now) k c.loop-start.owner) all c.loop-start.invariant in
    record { answer = matched; exact = λ h. absurd (matched_hopeful shape _ _ matched h) }
