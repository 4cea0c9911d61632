use Rattle.sheets.proofs.Lines.{empty_is}
use Rattle.sheets.proofs.table.Table.blank.Goals as goal

pub returns : goal.returns
returns c = empty_is
