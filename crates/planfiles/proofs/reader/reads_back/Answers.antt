use Rattle.sheets.specs.Sheets.{load_of}
use Rattle.planfiles.proofs.Back.{written_back}
use Rattle.planfiles.proofs.reader.reads_back.Goals as goal

pub returns : goal.returns
returns c =
    let s = c.args.sheet.now in
    written_back (load_of s) (record { tasked = s.size.tasked; manned = s.size.manned; framed = s.size.framed; light = s.light; below = s.below; beside = s.beside })
