use Rattle.std.proofs.Common.{◌≡◌, rules, arith}
use Rattle.graphs.specs.Graphs.{at}
use Rattle.preferences.specs.Reach.{node}
use Rattle.preferences.proofs.Walking.{lies_near}
use Rattle.preferences.proofs.search.Search.node_of.Goals as goal

pub returns : goal.returns
returns g c =
    let is : c.map_or.result ≡ node (at c.args.self.now.holder c.args.task) = search rules in
    record { is = is; near = omega (arith, is, lies_near _ _ c.args.task c.args.self.now.wide c.args.self.now.flipped) }
