use Rattle.std.proofs.Common.{◌≡◌, ℕ, ◌+◌, List, length, set, sym, subst, arith}
use Rattle.std.proofs.lemmas.List.{set-get_or}
use Rattle.graphs.specs.Graphs.{Row}
use Rattle.builder.specs.declared.slots.Slot.{Slot}
use Rattle.builder.specs.Answers.{LaidOut}
use Rattle.builder.specs.Lefts.{left_of}
use Rattle.builder.proofs.Steps.{within_frame}
use Rattle.builder.proofs.Turns.{SoFar, begun, one_turn, ended, full_room}
use Rattle.builder.proofs.building.lay.Goals as goal

pub loop-count-init : goal.loop-count-init
loop-count-init g c =
    let admits = g.R.PairingRule.admits c.args.rule.now in
    subst (λ (row : Row). SoFar admits (left_of c.args.left.now) c.args.room.now c.args.room.now (left_of c.args.left.now) row 0) (sym c.idle-pairing.ensures) (begun admits (left_of c.args.left.now) c.args.room.now)

pub returns-in_default : goal.returns-in_default
returns-in_default g c = subst (λ (slots : List Slot). LaidOut (g.R.PairingRule.admits c.args.rule.now) (left_of c.args.left.now) c.args.room.now slots c.loop-count.count) (sym (set-get_or c.loop-count.room c.loop-count.count _)) (ended c.args.left.now.within c.loop-count.invariant c.in_default.ensures)

pub subtract-requires-clause-near : goal.subtract-requires-clause-near
subtract-requires-clause-near g c = let next = c.in-Some.ensures.0 in within_frame (left_of c.loop-count.left) c.in-Some.slot.row c.in-Some.slot.ticks next.cover c.loop-count.left.within next.longest

pub loop-count-preserved : goal.loop-count-preserved
loop-count-preserved g c =
    let slot = c.in-Some.slot in
    let after = left_of c.subtract.new.self in
    subst (λ (row : Row). SoFar (g.R.PairingRule.admits c.args.rule.now) (left_of c.args.left.now) c.args.room.now (set c.loop-count.room c.loop-count.count slot) after row (c.loop-count.count + 1)) (sym c.in-Some.ensures.1)
    (one_turn c.args.left.now.within c.loop-count.invariant (omega (arith, c.loop-count.auto.room)) slot c.in-Some.ensures.0 after c.subtract.ensures)

pub returns : goal.returns
returns g c =
    let all : c.loop-count.count ≡ length c.loop-count.room = omega (arith, c.loop-count.auto.room) in
    subst (λ (count : ℕ). LaidOut (g.R.PairingRule.admits c.args.rule.now) (left_of c.args.left.now) c.args.room.now c.loop-count.room count) all
    (full_room c.args.left.now.within c.loop-count.invariant (omega (arith, c.requires, c.loop-count.auto.room)) c.loop-count.left.work.manned)
