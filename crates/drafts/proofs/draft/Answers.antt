use Rattle.std.proofs.Common.{◌≡◌, length, take, Err, Result, sym, refl, ap, ◌∙◌, subst, rules}
use Rattle.std.proofs.lemmas.Result.{err_from_is_err_and}
use Rattle.listings.specs.declared.refusals.Refusal.{Refusal}
use Rattle.sheets.specs.Sheets.{load_of}
use Rattle.templates.specs.Templates.{layout_of}
use Rattle.drafts.specs.Drafts.{Drafted}
use Rattle.drafts.proofs.Drafting.{Bounded, refused_build, adopted, adopted_as, adopted_into, never_refused, template_of, drafted}
use Rattle.drafts.proofs.draft.Goals as goal

pub returns-in_err-count : goal.returns-in_err-count
returns-in_err-count c =
    let s = load_of c.in_ok-sheet.sheet in
    let old = layout_of c.args.template.now in
    let p = err_from_is_err_and c.from_residual-in_err-count.result c.from_residual-in_err-count.ensures.1 in
    subst (λ (r : Result (Unit {0}) Refusal). Drafted c.args.file.now c.args.room.now c.build_default.new.room old old r) (sym (p.1 ∙ ap Err p.2))
    (refused_build c.args.file.now s c.args.room.now c.build_default.new.room old c.in_err-count.field-0.0
    (sym c.in_ok-sheet.ensures.outcome) c.in_err-count.ensures.answer)

pub returns-in_err-adopt : goal.returns-in_err-adopt
returns-in_err-adopt c =
    let sheet = c.in_ok-sheet.sheet in
    let s = load_of c.in_ok-sheet.sheet in
    let answer = c.in_ok-count.ensures.answer in
    let long : length c.build_default.new.room ≡ length c.args.room.now = search rules in
    let bounded : Bounded (load_of c.in_ok-sheet.sheet) = record { tasked = sheet.size.tasked; manned = sheet.size.manned; framed = sheet.size.framed } in
    let front = take c.in_ok-count.count c.build_default.new.room in
    let taken = adopted s c.args.room.now c.build_default.new.room c.in_ok-count.count bounded answer.1 answer.0 long in
    never_refused (adopted_as s front c.tasks.ensures c.processors.ensures c.frame.ensures refl taken) c.in_err-adopt.ensures.answer

pub returns : goal.returns
returns c =
    let sheet = c.in_ok-sheet.sheet in
    let s = load_of c.in_ok-sheet.sheet in
    let room = c.args.room.now in
    let room' = c.build_default.new.room in
    let count = c.in_ok-count.count in
    let front = take c.in_ok-count.count c.build_default.new.room in
    let answer = c.in_ok-count.ensures.answer in
    let long : length c.build_default.new.room ≡ length c.args.room.now = search rules in
    let bounded : Bounded (load_of c.in_ok-sheet.sheet) = record { tasked = sheet.size.tasked; manned = sheet.size.manned; framed = sheet.size.framed } in
    let taken = adopted s room room' count bounded answer.1 answer.0 long in
    let into = adopted_into s front c.tasks.ensures c.processors.ensures c.frame.ensures refl (layout_of c.args.template.now) taken in
    let h = drafted s room room' front (layout_of c.adopt.new.self) (c.adopt.ensures.state ∙ into) (template_of s room room' count bounded answer.1 answer.0 long) in
    (s, sym c.in_ok-sheet.ensures.outcome, h.0, h.1)
