use Rattle.std.proofs.Common.{◌+◌, is_some, sym, ap, subst, rules}
use Rattle.std.proofs.lemmas.Bool.{both_ways}
use Rattle.pairings.specs.Rules.{marking}
use Rattle.preferences.specs.declared.trails.Trail.{Trail}
use Rattle.preferences.specs.Reach.{Drawing}
use Rattle.preferences.proofs.Reaching.{reached_some, more_none}
use Rattle.preferences.proofs.Exploring.{drawing_on}
use Rattle.preferences.proofs.search.Search.draw.Goals as goal
use Rattle.preferences.proofs.search.Search.draw.Goals.{then-is_none+then-not-self-q, then-is_none+else-not-self-q+in-Some, then-is_none+else-not-self-q+in_default, else-is_none}

pub loop-q-preserved : goal.loop-q-preserved
loop-q-preserved g c =
    let s = c.args.self.now in
    let w = c.loop-q.invariant in
    let Next : Trail → Type 0 = λ t. Drawing (g.G.Graph.shape s.graph.now) (marking s.marks.now) s.row.now s.holder s.start c.args.trail.now t (c.loop-q.q + 1) in
    elim c.if-is_none.branch [
      | then-is_none+then-not-self-q b ↦ subst Next (sym b.trail-is)
          (drawing_on _ _ _ _ _ _ _ _ _ w b.reach.ensures.trailed b.reach.ensures.more b.reach.ensures.room (λ a o u. b.reach.ensures.here) (λ a l o j. b.reach.ensures.here))
      | then-is_none+else-not-self-q+in-Some b ↦ subst Next (sym b.trail-is)
          (drawing_on _ _ _ _ _ _ _ _ _ w b.reach-in-Some.ensures.trailed b.reach-in-Some.ensures.more b.reach-in-Some.ensures.room (λ a o u. b.reach-in-Some.ensures.here) (λ a l o j. b.reach-in-Some.ensures.here))
      | then-is_none+else-not-self-q+in_default b ↦ subst Next (sym b.trail-is)
          (drawing_on _ _ _ _ _ _ _ _ _ w w.trailed (more_none _) w.room (λ a o u. absurd (both_ways _ u b.if-not-self-q.false)) (λ a l o j. absurd (b.in_default.ensures a l (ap is_some o) j)))
      | else-is_none b ↦ subst Next (sym b.trail-is)
          (let pos = reached_some c.loop-q.trail c.loop-q.q (search rules) in
          drawing_on _ _ _ _ _ _ _ _ _ w w.trailed (more_none _) w.room (λ a o u. pos) (λ a l o j. pos))
    ]
