use Rattle.ranks.proofs.Onces.{ranked_none}
use Rattle.ranks.proofs.ranking.each_once.Goals as goal

pub loop-rank-init : goal.loop-rank-init
loop-rank-init c = ranked_none _
