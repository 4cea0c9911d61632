use Rattle.std.proofs.Common.{arith}
use Rattle.preferences.proofs.Leads.{leading_none, leading_all}
use Rattle.preferences.proofs.first.FirstRule.advanced.Goals as goal

pub loop-p-init : goal.loop-p-init
loop-p-init g c = leading_none _ _ _ _ _ c.requires

pub returns : goal.returns
returns g c = record {
  first = leading_all _ _ _ _ _ _ c.requires.few (omega (arith, c.seconds-p-end.ensures.is, c.loop-p-test.false)) c.loop-p.invariant;
  small = c.seconds-p-end.ensures.small;
}
