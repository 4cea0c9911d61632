use Rattle.std.proofs.Common.{◌≡◌, ◌<◌, Some, sym, is_some, ap, ◌∙◌, rules}
use Rattle.std.proofs.lemmas.Bool.{both_ways}
use Rattle.graphs.specs.declared.matching.Hop.TheVariants.{FromStart}
use Rattle.graphs.proofs.Moving.{skipped, walk_starts, walk_near, walk_on, walk_ends}
use Rattle.graphs.proofs.Hall.{closed_hopeless}
use Rattle.graphs.proofs.matching.admit.Goals as goal
use Rattle.graphs.proofs.matching.admit.Goals.{in_default, in_default-2}

pub returns-then-not-is_marked : goal.returns-then-not-is_marked
returns-then-not-is_marked g c = skipped _ _ _ _ (sym c.is_marked.ensures ∙ c.if-not-is_marked.true) c.requires.matched

pub returns-in_err-hops : goal.returns-in_err-hops
returns-in_err-hops g c = rw c.from_residual.ensures (let (hops, closed, owned) = c.in_err-hops.ensures in closed_hopeless _ _ _ _ hops c.requires.inside (sym c.is_marked.ensures ∙ c.if-not-is_marked.false) c.requires.matched closed owned)

pub loop-c-init : goal.loop-c-init
loop-c-init g c = walk_starts _ _ _ _ _ _ c.requires.matched c.in_ok-hops.ensures

pub bounds-owner-c : goal.bounds-owner-c
bounds-owner-c g c = walk_near _ _ _ _ _ _ c.loop-c.invariant _ (sym c.take.ensures.value ∙ c.in-Some-FromOwnerOf.is ∙ ap Some c.in-Some-FromOwnerOf.field-0-is)

pub offset_bounds-owner-c : goal.offset_bounds-owner-c
offset_bounds-owner-c g c = let near : c.in-Some-FromOwnerOf.c < 64 = walk_near _ _ _ _ _ _ c.loop-c.invariant _ (sym c.take.ensures.value ∙ c.in-Some-FromOwnerOf.is ∙ ap Some c.in-Some-FromOwnerOf.field-0-is) in search rules

pub loop-c-preserved : goal.loop-c-preserved
loop-c-preserved g c = rw (c.take.ensures.after, c.take-in-Some-FromOwnerOf.ensures.after)
    (walk_on _ _ _ _ _ _ c.loop-c.invariant _ (sym c.take.ensures.value ∙ c.in-Some-FromOwnerOf.is ∙ ap Some c.in-Some-FromOwnerOf.field-0-is) _ c.take-in-Some-FromOwnerOf.ensures.value)

pub returns : goal.returns
returns g c = elim c.match-take.branch [
  | in_default w ↦
      let last : w.in_default.field-0 ≡ FromStart = search rules in
      walk_ends _ _ _ _ _ _ c.loop-c.invariant (sym c.take.ensures.value ∙ w.in_default.is ∙ ap Some last) (sym c.is_marked.ensures ∙ c.if-not-is_marked.false)
  | in_default-2 w ↦ absurd (both_ways _ (ap is_some (sym c.take.ensures.value ∙ w.in_default.is)) c.loop-c.invariant.reached)
]
