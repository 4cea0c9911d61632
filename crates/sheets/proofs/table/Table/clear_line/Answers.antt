use Rattle.std.proofs.Common.{◌≡◌, length, arith}
use Rattle.sheets.proofs.Lines.{cleared_is}
use Rattle.sheets.proofs.table.Table.clear_line.Goals as goal

pub returns : goal.returns
returns c =
    let tall : length c.args.self.now.ticks ≡ 64 = omega arith in
    cleared_is _ tall _ c.requires
