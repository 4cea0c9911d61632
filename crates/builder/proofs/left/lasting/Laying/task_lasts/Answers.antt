use Rattle.std.proofs.Common.{◌≡◌, ℕ, take, sym, ap, ◌∙◌}
use Rattle.builder.specs.declared.left.lasting.Laying.{Laying}
use Rattle.builder.specs.Lasting.{holder, lasting}
use Rattle.builder.specs.Lefts.{left_of}
use Rattle.builder.proofs.Lasts.{holder_at, holder_front}
use Rattle.builder.proofs.left.lasting.Laying.task_lasts.Goals as goal

found : (laying : Laying) (task : ℕ) → holder (take laying.left.now.work.processors laying.row.now) task ≡ holder laying.row.now task
found laying task = holder_front laying.row.now task laying.left.now.work.processors (λ p e. (laying.pairs p task e).1)

pub lasts-requires-clause-mates : goal.lasts-requires-clause-mates
lasts-requires-clause-mates c =
    let laying = c.args.self.now in
    λ p e. (laying.pairs p c.args.task (holder_at laying.row.now c.args.task p (sym (found laying c.args.task) ∙ sym c.processor_of.ensures ∙ e))).1

pub returns : goal.returns
returns c =
    let laying = c.args.self.now in
    c.lasts.ensures ∙ ap (lasting (left_of laying.left.now) c.args.task) (c.processor_of.ensures ∙ found laying c.args.task)
