use Rattle.std.proofs.Common.{rules}
use Rattle.planfiles.proofs.Accepted.{accepted_made}
use Rattle.planfiles.proofs.reader.read_sheet.Goals as goal

pub returns : goal.returns
returns c =
    record {
      outcome = c.read.ensures;
      accepts = accepted_made c.args.bytes.now (λ i. let h = c.type_inv.bytes i in search rules) c.read.result c.read.ensures;
    }
