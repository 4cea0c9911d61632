use Rattle.std.proofs.Common.{◌≡◌, ℕ, ◌≤◌, length, Result, sym, subst, arith, rules}
use Rattle.std.proofs.lemmas.List.{length-take-le}
use Rattle.drafts.specs.Drafts.{draft_text}
use Rattle.listings.specs.Refusing.{Answered}
use Rattle.listings.specs.declared.refusals.ListRefusal.{ListRefusal}
use Rattle.templates.specs.Templates.{layout_of}
use Rattle.template.proofs.main.Goals as goal

pub slice_bounds-write_all-end : goal.slice_bounds-write_all-end
slice_bounds-write_all-end c =
    let text = draft_text (layout_of c.list_draft.new.template) c.list_draft.ensures.answer in
    let listed = subst (λ (r : Result ℕ ListRefusal). Answered text c.deref_mut-2.result.now c.list_draft.new.output r) c.in-Ok.is c.list_draft.ensures.listed in
    let long : length c.deref-2.result.now ≡ length c.deref_mut-2.result.now = search rules in
    sym (length-take-le c.in-Ok.length c.deref-2.result.now (omega (arith, listed.1, long)))
