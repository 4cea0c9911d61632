use Rattle.std.proofs.Common.{◌≡◌, ℕ, Err, Ok, Result, refl, ap, subst, sym, rules, arith}
use Rattle.sheets.specs.Loads.{Load, places_needed}
use Rattle.plans.specs.Plans.{Within}
use Rattle.plans.proofs.Plannable.{plannable}
use Rattle.sheets.specs.Sheets.{load_of}
use Rattle.builder.specs.Answers.{BuildAnswer, LaidOut, Exact}
use Rattle.builder.specs.Lefts.{left_of}
use Rattle.builder.specs.declared.refusals.BuildRefusal.{BuildRefusal}
use Rattle.builder.specs.declared.refusals.BuildRefusal.TheVariants.{NoPlan, NoRoom}
use Rattle.builder.proofs.Turns.{over_not_plannable, exact, taken, refused_line, same_error}
use Rattle.builder.proofs.building.build.Goals as goal

pub returns-in_err-left : goal.returns-in_err-left
returns-in_err-left g c =
    let s = load_of c.args.sheet.now in
    let (line, is, over) = refused_line s c.of.result c.map_err.result _ c.of.ensures c.map_err.ensures.cases (λ line e k. search rules) c.in_err-left.field-0.0 c.in_err-left.was in
    let result : c.from_residual.result ≡ Err (NoPlan line) = same_error c.from_residual.result (NoPlan line) _ (λ e k. search (rules, is)) c.from_residual.ensures.1 in
    let answer : BuildAnswer (g.R.PairingRule.admits c.args.rule.now) s c.args.room.now c.args.room.now (Err (NoPlan line)) = (over, over_not_plannable s line over, refl) in
    subst (λ (r : Result ℕ BuildRefusal). record { answer : BuildAnswer (g.R.PairingRule.admits c.args.rule.now) s c.args.room.now c.args.room.now r; exact : Exact s c.args.room.now r }) (sym result)
    (record { answer = answer; exact = exact (g.R.PairingRule.admits c.args.rule.now) s c.args.room.now c.args.room.now (Err (NoPlan line)) answer })

pub returns-then-room-places_needed : goal.returns-then-room-places_needed
returns-then-room-places_needed g c =
    let s = load_of c.args.sheet.now in
    let same : left_of c.in_ok-left.left ≡ s = taken s c.of.result c.map_err.result _ c.of.ensures c.map_err.ensures.cases c.in_ok-left.left c.in_ok-left.was in
    let answer : BuildAnswer (g.R.PairingRule.admits c.args.rule.now) s c.args.room.now c.args.room.now (Err NoRoom) = (
      plannable s (subst Within same c.in_ok-left.left.within),
      omega (arith, c.if-room-places_needed.true, c.places_needed.ensures, ap places_needed same),
      refl,
    ) in
    record { answer = answer; exact = exact (g.R.PairingRule.admits c.args.rule.now) s c.args.room.now c.args.room.now (Err NoRoom) answer }

pub returns : goal.returns
returns g c =
    let s = load_of c.args.sheet.now in
    let same : left_of c.in_ok-left.left ≡ s = taken s c.of.result c.map_err.result _ c.of.ensures c.map_err.ensures.cases c.in_ok-left.left c.in_ok-left.was in
    let answer : BuildAnswer (g.R.PairingRule.admits c.args.rule.now) s c.args.room.now c.lay.new.room (Ok c.lay.result) = (
      omega (arith, c.if-room-places_needed.false, c.places_needed.ensures, ap places_needed same),
      subst (λ (l : Load). LaidOut (g.R.PairingRule.admits c.args.rule.now) l c.args.room.now c.lay.new.room c.lay.result) same c.lay.ensures,
    ) in
    record { answer = answer; exact = exact (g.R.PairingRule.admits c.args.rule.now) s c.args.room.now c.lay.new.room (Ok c.lay.result) answer }
