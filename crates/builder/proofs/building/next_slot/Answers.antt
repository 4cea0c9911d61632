use Rattle.std.proofs.Common.{sym, ap, ◌∙◌, subst, arith}
use Rattle.graphs.specs.Graphs.{Row, at}
use Rattle.graphs.specs.Covers.{Marking}
use Rattle.plans.specs.Remaining.{graph, marks}
use Rattle.builder.specs.Lefts.{left_of}
use Rattle.builder.proofs.Turns.{chooses_some}
use Rattle.builder.proofs.building.next_slot.Goals as goal

pub unreachable-requires : goal.unreachable-requires
unreachable-requires g c = chooses_some (g.R.PairingRule.admits c.args.rule.now) _ _ c.args.pairing.now.row c.args.left.now.work.fewer c.args.left.now.within (omega (arith, c.if-left-eq0.false)) c.marks-marks.ensures c.in_default.ensures

pub invariant_of-longest : goal.invariant_of-longest
invariant_of-longest g c =
    let s = left_of c.args.left.now in
    let admitted = subst (λ (m : Marking). g.R.PairingRule.admits c.args.rule.now (graph s) m c.args.pairing.now.row c.in-Some.next.row) c.marks-marks.ensures c.in-Some.ensures in
    let cover = g.R.PairingRule.covering c.args.rule.now (graph s) (marks s) c.args.pairing.now.row c.in-Some.next.row admitted in
    record { pairs = λ p t e. let edge = cover.edges p t (ap (λ (row : Row). at row p) (sym c.row-row.ensures) ∙ e) in (edge.0, edge.1) }

pub returns : goal.returns
returns g c =
    let s = left_of c.args.left.now in
    let admits : Row → Type 0 = g.R.PairingRule.admits c.args.rule.now (graph s) (marks s) c.args.pairing.now.row in
    let admitted : admits c.row-row.result = subst admits (sym c.row-row.ensures) (subst (λ (m : Marking). g.R.PairingRule.admits c.args.rule.now (graph s) m c.args.pairing.now.row c.in-Some.next.row) c.marks-marks.ensures c.in-Some.ensures) in
    let cover = g.R.PairingRule.covering c.args.rule.now (graph s) (marks s) c.args.pairing.now.row c.row-row.result admitted in
    (record { more = omega (arith, c.if-left-eq0.false); admitted = admitted; cover = cover; longest = c.longest-ticks.ensures }, sym c.row-row.ensures)
