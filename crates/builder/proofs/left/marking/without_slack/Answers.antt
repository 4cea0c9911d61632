use Rattle.std.proofs.Common.{◌≡◌, eqb, false, length, replicate, ap, ◌∙◌, arith}
use Rattle.std.proofs.lemmas.List.{length-replicate, length-take-le}
use Rattle.sheets.specs.Loads.{task_total}
use Rattle.plans.specs.Remaining.{marks}
use Rattle.builder.proofs.Marks.{not_past, one_marked, all_marked}
use Rattle.builder.proofs.left.marking.without_slack.Goals as goal

pub loop-line-preserved : goal.loop-line-preserved
loop-line-preserved g c =
    let s = g.L.Lines.load c.args.lines.now in
    let full = eqb c.total.result c.from-frame.result in
    let is : full ≡ (marks s).urgent c.loop-line.line = ap (λ x. eqb x c.from-frame.result) c.total.ensures ∙ ap (eqb (task_total s c.loop-line.line)) (c.from-frame.ensures ∙ c.frame.ensures) in
    one_marked (marks s).urgent c.loop-line.mark-items c.loop-line.line full (omega (arith, c.loop-line.auto.mark-items, c.loop-line-test.true)) is c.loop-line.invariant

pub returns : goal.returns
returns g c =
    let s = g.L.Lines.load c.args.lines.now in
    let n = c.lines.result in
    let long : length c.loop-line.mark-items ≡ n =
    c.loop-line.auto.mark-items ∙ length-take-le n (replicate g.row.N false) (omega (arith, c.lines.ensures, c.requires.fits, length-replicate g.row.N false)) in
    all_marked (marks s).urgent c.loop-line.mark-items n g.row.N long
    (λ line h. not_past s (g.met.L.Lines.beyond c.args.lines.now) c.requires.more line (omega (arith, c.lines.ensures)))
    (λ line h. c.loop-line.invariant line (omega (arith, long, c.loop-line.auto.mark-items, c.loop-line-test.false)))
