use Rattle.std.proofs.Common.{rules, ◌≡◌, Ok, ◌∙◌, sym, ap}
use Rattle.planfiles.specs.Kinds.{byte_of}
use Rattle.planfiles.specs.Steps.{fronted}
use Rattle.sheets.specs.Sheets.{load_of}
use Rattle.planfiles.proofs.Steps.{Passes, left, read_on}
use Rattle.planfiles.proofs.reader.read.Goals as goal

pub loop-sheet-preserved : goal.loop-sheet-preserved
loop-sheet-preserved c =
    let front : fronted c.loop-sheet.rest.now (Ok c.in_ok-map_err.field-0) = search rules in
    let passed : Passes (load_of c.loop-sheet.sheet) c.loop-sheet.last c.in_ok-map_err.field-0.1.now = search rules in
    let leaves : load_of c.take.new.sheet ≡ left (load_of c.loop-sheet.sheet) c.in_ok-map_err.field-0.1.now = search rules in
    let kind = sym (ap byte_of c.in-Load-len6-up.is-0) ∙ front.1 in
    let on = read_on _ _ c.loop-sheet.last c.args.bytes.now c.loop-sheet.rest.now c.in_ok-map_err.field-0.1.now kind front.2 front.3
    c.in-Load-len6-up.len_at_least c.loop-sheet.invariant.0 passed leaves in
    (on.0, on.1 ∙ c.loop-sheet.invariant.1)
