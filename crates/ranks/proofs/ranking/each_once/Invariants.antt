use Rattle.ranks.specs.Ranks.{Ranked}
use Rattle.ranks.proofs.ranking.each_once.Given as goal

abbrev pub invariant-loop-rank : goal.invariant-loop-rank
invariant-loop-rank l = Ranked l.ranks l.seen l.rank-index
