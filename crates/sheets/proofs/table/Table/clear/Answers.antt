use Rattle.sheets.proofs.Lines.{empty_is}
use Rattle.sheets.proofs.table.Table.clear.Goals as goal

pub returns : goal.returns
returns c = empty_is
