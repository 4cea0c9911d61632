use Rattle.std.proofs.Common.{◌≡◌, ◌≤◌, length}
use Rattle.graphs.specs.Rows.{Distinct}
use Rattle.pairings.specs.Flips.{HalfFlipped}
use Rattle.pairings.proofs.flips.flipped.Given as goal

abbrev pub invariant-loop-place : goal.invariant-loop-place
invariant-loop-place g l = record {
  wide : length l.back ≡ g.row.M;
  half : g.row.N ≤ 256 → Distinct g.row.M l.row → HalfFlipped g.row.M l.row l.place l.back;
}
