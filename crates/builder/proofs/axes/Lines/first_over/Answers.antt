use Rattle.std.proofs.Common.{◌<◌, ◌≤◌, rules, arith}
use borrow.Author.Tests.{tests}
use Rattle.std.proofs.lemmas.Iterator.{YieldsList-from_range, first_from_find}
use Rattle.sheets.specs.Loads.{task_total}
use Rattle.builder.proofs.Calls.{first_in_range}
use Rattle.builder.proofs.axes.Lines.first_over.Goals as goal

pub returns : goal.returns
returns g c =
    let s = g.Self.Lines.load c.args.self.now in
    first_in_range s c.find.result (first_from_find _ _ c.find.result (λ t. s.frame < task_total s t) (λ t. task_total s t ≤ s.frame) c.find.ensures.ran (YieldsList-from_range 0 c.lines.result s.tasks (cc) (omega (arith, c.lines.ensures))) (λ x q k. search (rules, tests)) (λ x q k. search (rules, tests)))
