-- Two tasks that only one processor can take.
use Rattle.std.proofs.Common.{◌≡◌, ℕ, Some, sym, ap, ◌∙◌}
use Rattle.graphs.specs.Graphs.{Row, at}
use Rattle.plans.specs.Covers.{TwoForOne}

same_task : (row : Row) (t u : ℕ) → at row 0 ≡ Some t → at row 0 ≡ Some u → t ≡ u
same_task row t u e f = cc

pub two_for_one : TwoForOne
two_for_one g m t u apart in_t in_u urgent_t urgent_u only_t only_u covered =
    let row = covered.0 in
    let cover = covered.1 in
    let (p, at_p) = cover.tasks t in_t urgent_t in
    let (q, at_q) = cover.tasks u in_u urgent_u in
    let zero_p = only_t p (cover.edges p t at_p).2 in
    let zero_q = only_u q (cover.edges q u at_q).2 in
    apart (same_task row t u (ap (at row) (sym zero_p) ∙ at_p) (ap (at row) (sym zero_q) ∙ at_q))
