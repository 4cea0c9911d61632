use Rattle.std.proofs.Common.{◌≡◌, ◌+◌, length, set, Some, sym, ap, ◌∙◌, subst, length-set, arith}
use Rattle.pairings.specs.Flips.{HalfFlipped}
use Rattle.pairings.proofs.Flipping.{flip_skip, flip_more, flip_past}
use Rattle.pairings.proofs.flips.flipped.Goals as goal
use Rattle.pairings.proofs.flips.flipped.Goals.{in-Some+then-entry, in-Some+else-entry, in_default-entry}

pub loop-place-preserved : goal.loop-place-preserved
loop-place-preserved g c = elim c.match-entry.branch [
  | in-Some+then-entry w ↦ let filled : c.match-entry.back ≡ set c.loop-place.back w.in-Some.entry (Some c.loop-place.place) = w.back-is ∙ ap (λ e. set c.loop-place.back e (Some c.in-Ok.place)) w.from-entry.ensures ∙ ap (λ p. set c.loop-place.back w.in-Some.entry (Some p)) c.in-Ok.ensures.1 in record {
    wide = ap length filled ∙ length-set c.loop-place.back w.in-Some.entry _ ∙ c.loop-place.invariant.wide;
    half = λ few distinct. subst (λ r. HalfFlipped g.row.M c.args.row.now (c.loop-place.place + 1) r) (sym filled) (flip_more (c.loop-place.invariant.half few distinct) distinct _ w.in-Some.is);
  }
  | in-Some+else-entry w ↦ record {
    wide = ap length w.back-is ∙ c.loop-place.invariant.wide;
    half = λ few distinct. absurd (flip_past (c.loop-place.invariant.half few distinct) distinct _ w.in-Some.is (omega (arith, w.if-entry.false, w.from-entry.ensures)));
  }
  | in_default-entry w ↦ record {
    wide = ap length w.back-is ∙ c.loop-place.invariant.wide;
    half = λ few distinct. subst (λ r. HalfFlipped g.row.M c.args.row.now (c.loop-place.place + 1) r) (sym w.back-is) (flip_skip (c.loop-place.invariant.half few distinct) w.in_default-entry.is);
  }
]
