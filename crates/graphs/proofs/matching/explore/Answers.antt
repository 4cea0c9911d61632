use Rattle.std.proofs.Common.{not, ap, ◌∙◌}
use Rattle.graphs.proofs.Growing.{grown_none, owned_none, grow, owned, found}
use Rattle.graphs.proofs.matching.explore.Goals as goal

pub loop-to-init : goal.loop-to-init
loop-to-init g c = (grown_none _ _ _, owned_none _)

pub returns-then-is_none : goal.returns-then-is_none
returns-then-is_none g c = found _ _ _ _ _ _ c.loop-to.invariant.0 c.in-Some.ensures (c.is_none.ensures ∙ ap not c.if-is_none.true)

pub loop-to-preserved : goal.loop-to-preserved
loop-to-preserved g c = (
  grow _ _ _ _ _ _ c.loop-to.invariant.0 c.in-Some.ensures,
  owned _ _ _ _ _ _ c.loop-to.invariant.0 c.in-Some.ensures (c.is_none.ensures ∙ ap not c.if-is_none.false) c.loop-to.invariant.1,
)
