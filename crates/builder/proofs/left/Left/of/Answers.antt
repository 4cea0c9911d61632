use Rattle.std.proofs.Common.{◌≡◌, ℕ, List, ap, ◌∙◌, subst, Some, None, arith}
use Rattle.sheets.specs.Cells.{cell}
use Rattle.sheets.specs.Loads.{Load}
use Rattle.sheets.specs.Sheets.{load_of}
use Rattle.builder.specs.Lines.{TaskOver, ProcessorOver}
use Rattle.builder.specs.Lefts.{work_of}
use Rattle.builder.specs.declared.work.Work.{Work}
use Rattle.builder.specs.Reading.{load_from}
use Rattle.builder.proofs.left.Left.of.Goals as goal

pub invariant_of-work : goal.invariant_of-work
invariant_of-work c = record {
  few = omega (arith, c.tasks.ensures, c.args.sheet.now.size.tasked.1);
  manned = omega (arith, c.processors.ensures, c.args.sheet.now.size.manned.0);
  fewer = omega (arith, c.processors.ensures, c.args.sheet.now.size.manned.1);
  below = λ t p h. ap (λ (f : ℕ → ℕ → ℕ). f t p) c.lines.ensures ∙ c.args.sheet.now.below t p (omega (arith, c.tasks.ensures));
  beside = λ t p h. ap (λ (f : ℕ → ℕ → ℕ). f t p) c.lines.ensures ∙ c.args.sheet.now.beside t p (omega (arith, c.processors.ensures));
}

same_load : (n n' m m' frame frame' : ℕ) (lines : List (List ℕ)) (ticks : ℕ → ℕ → ℕ) → n ≡ n' → m ≡ m' → frame ≡ frame' → cell lines ≡ ticks → load_from n m frame lines ≡ record { tasks = n'; processors = m'; frame = frame'; ticks = ticks }
same_load n n' m m' frame frame' lines ticks tasks processors frames cells = λ i. record { tasks = tasks i; processors = processors i; frame = frames i; ticks = cells i }

pub returns-in-Some : goal.returns-in-Some
returns-in-Some c =
    let s = load_of c.args.sheet.now in
    subst (λ (l : Load). TaskOver l (Some c.in-Some.task)) (same_load _ s.tasks _ s.processors _ s.frame c.lines.result s.ticks c.tasks.ensures c.processors.ensures c.frame.ensures c.lines.ensures) c.in-Some.ensures

pub returns-in-Some-first_over : goal.returns-in-Some-first_over
returns-in-Some-first_over c =
    let s = load_of c.args.sheet.now in
    let same = same_load _ s.tasks _ s.processors _ s.frame c.lines.result s.ticks c.tasks.ensures c.processors.ensures c.frame.ensures c.lines.ensures in
    let over = subst (λ (work : Work). ProcessorOver (work_of work) (Some c.in-Some-first_over.processor)) c.across.ensures c.in-Some-first_over.ensures in
    (subst (λ (l : Load). TaskOver l None) same c.in_default.ensures, subst (λ (l : Load). ProcessorOver l (Some c.in-Some-first_over.processor)) same over)
