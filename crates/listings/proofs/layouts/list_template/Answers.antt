use Rattle.std.proofs.Common.{◌+◌, ◌≤◌, length, ap, arith}
use Rattle.listings.specs.Listing.{first_line, slots_text}
use Rattle.listings.proofs.Places.{slots_short, slot_room, slot_listed}
use Rattle.sheets.specs.declared.size.Size.{Size}
use Rattle.templates.specs.Templates.{layout_of}
use Rattle.listings.proofs.layouts.list_template.Goals.{else-room-slots-via-then-room-slots+else-room-slots_length, else-room-slots-via-else-room-slots}
use Rattle.listings.proofs.layouts.list_template.Goals as goal

pub write_line-end-requires-in-loop-slot : goal.write_line-end-requires-in-loop-slot
write_line-end-requires-in-loop-slot c =
    let slots = c.slots-slots.result.now in
    let m = c.size-size.result.processors in
    let first = first_line c.size-size.result.tasks m c.size-size.result.frame (length slots) in
    let fits : length first + length (slots_text m slots) ≤ length c.args.output.now =
    elim c.else-room-slots.branch [
      | else-room-slots-via-then-room-slots+else-room-slots_length w ↦ omega (arith, w.if-room-slots_length.false, c.in_ok-room.ensures, c.len.ensures.value, ap length c.set_first.ensures, w.slots_length.ensures)
      | else-room-slots-via-else-room-slots w ↦ omega (arith, w.if-room-slots.false, c.in_ok-room.ensures, c.len.ensures.value, ap length c.set_first.ensures, slots_short (layout_of c.args.template.now) c.args.template.now.sound (ap (λ (s : Size). s.processors) c.size-size.ensures) c.slots-slots.ensures)
    ] in
    omega (arith, slot_room first m slots c.loop-slot.slot-index c.loop-slot-test.true c.set_slot.ensures c.args.output.now c.loop-slot.invariant fits, c.loop-slot.auto.output)

pub loop-slot-preserved : goal.loop-slot-preserved
loop-slot-preserved c =
    let slots = c.slots-slots.result.now in
    let m = c.size-size.result.processors in
    let first = first_line c.size-size.result.tasks m c.size-size.result.frame (length slots) in
    let fits : length first + length (slots_text m slots) ≤ length c.args.output.now =
    elim c.else-room-slots.branch [
      | else-room-slots-via-then-room-slots+else-room-slots_length w ↦ omega (arith, w.if-room-slots_length.false, c.in_ok-room.ensures, c.len.ensures.value, ap length c.set_first.ensures, w.slots_length.ensures)
      | else-room-slots-via-else-room-slots w ↦ omega (arith, w.if-room-slots.false, c.in_ok-room.ensures, c.len.ensures.value, ap length c.set_first.ensures, slots_short (layout_of c.args.template.now) c.args.template.now.sound (ap (λ (s : Size). s.processors) c.size-size.ensures) c.slots-slots.ensures)
    ] in
    slot_listed first m slots c.loop-slot.slot-index c.loop-slot-test.true c.set_slot.ensures c.args.output.now c.loop-slot.invariant fits
    c.write_line-end-in-loop-slot.ensures.end c.write_line-end-in-loop-slot.ensures.put
