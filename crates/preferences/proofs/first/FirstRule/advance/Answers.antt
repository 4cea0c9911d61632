use Rattle.std.proofs.Common.{arith}
use Rattle.pairings.specs.Rules.{marking}
use Rattle.preferences.proofs.Leads.{serving_paired, led_idle, led_given}
use Rattle.preferences.proofs.first.FirstRule.advance.Goals as goal

pub invariant_of-search : goal.invariant_of-search
invariant_of-search g c = let paired = serving_paired (g.G.Graph.shape c.args.graph.now) (marking c.args.marks.now) c.args.row.now c.requires.small c.requires.serving in record {
  small = c.requires.small;
  few = c.requires.few;
  inside = c.requires.inside;
  wide = c.told-row;
  near = paired.small;
  flipped = c.flipped.ensures.flipped (omega arith) paired;
}

pub returns-in-Some : goal.returns-in-Some
returns-in-Some g c = led_given _ _ _ _ _ _ _ _ c.told-row c.requires.serving (c.flipped.ensures.flipped (omega arith) (serving_paired _ _ _ c.requires.small c.requires.serving)) c.explore-trail.ensures.closed c.requires.few c.requires.inside _ c.in-Some.ensures _ c.hand_over.ensures.wide c.hand_over.ensures.serving c.hand_over.ensures.same c.hand_over.ensures.here

pub returns-in_default : goal.returns-in_default
returns-in_default g c = led_idle _ _ _ _ _ _ _ _ c.told-row c.requires.serving (c.flipped.ensures.flipped (omega arith) (serving_paired _ _ _ c.requires.small c.requires.serving)) c.explore-trail.ensures.closed c.requires.few c.requires.inside c.in_default.ensures
