use Rattle.plans.specs.Remaining.{marks}
use Rattle.builder.proofs.Marks.{Marked}
use Rattle.builder.proofs.left.marking.without_slack.Given as goal

abbrev pub invariant-loop-line : goal.invariant-loop-line
invariant-loop-line g l = Marked l.mark-items (marks (g.L.Lines.load l.lines)).urgent l.line
