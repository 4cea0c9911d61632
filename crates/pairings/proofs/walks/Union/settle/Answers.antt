use Rattle.std.proofs.Common.{arith}
use Rattle.pairings.proofs.Settling.{shut_none}
use Rattle.pairings.proofs.walks.Union.settle.Goals as goal

pub loop-p-init : goal.loop-p-init
loop-p-init c = (shut_none 16 _ _, λ p l. absurd (omega arith))
