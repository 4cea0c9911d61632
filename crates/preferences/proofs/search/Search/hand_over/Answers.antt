use Rattle.std.proofs.Common.{◌<◌, sym, ap, subst, ◌∙◌, arith}
use Rattle.graphs.specs.Graphs.{Row}
use Rattle.pairings.specs.Rules.{marking}
use Rattle.preferences.specs.Reach.{Walk, Shifted, reached, depth_of}
use Rattle.preferences.proofs.Reaching.{reached_some}
use Rattle.preferences.proofs.Walking.{walk_held, walk_free, walk_step, walk_ends, lies_held, lies_free}
use Rattle.preferences.proofs.search.Search.hand_over.Goals as goal
use Rattle.preferences.proofs.search.Search.hand_over.Goals.{then-x-lt-POOL, else-x-lt-POOL}

pub loop-x-init : goal.loop-x-init
loop-x-init g c =
    let s = c.args.self.now in
    let is = c.node_of-x.ensures.is in
    let some : 0 < depth_of c.args.trail.now c.node_of-x.result = reached_some c.args.trail.now c.node_of-x.result (ap (reached c.args.trail.now) is ∙ c.requires.lies) in
    let Begun : Row → Type 0 = λ r. Walk (g.G.Graph.shape s.graph.now) (marking s.marks.now) s.row.now s.start c.args.task c.args.trail.now r c.node_of-x.result in
    elim c.if-x-lt-POOL.branch [
      | then-x-lt-POOL w ↦ subst Begun (sym w.row-is)
          (walk_held _ _ _ _ _ s.few _ c.requires.trailed.late c.requires.serving s.wide c.requires.trailed.tree (λ z. omega (arith, c.requires.trailed.low z)) _ (lies_held _ _ _ _ s.flipped is w.if-x-lt-POOL.true) some)
      | else-x-lt-POOL w ↦ subst Begun (sym w.row-is)
          (let (pool, free) = lies_free _ _ _ _ s.wide s.flipped is w.if-x-lt-POOL.false in
          walk_free _ _ _ _ _ s.few _ c.requires.trailed.late c.requires.serving s.wide c.requires.trailed.tree (λ z. omega (arith, c.requires.trailed.low z)) _ pool free some)
    ]

pub loop-x-preserved : goal.loop-x-preserved
loop-x-preserved g c = rw c.from-via.ensures (walk_step _ _ _ _ _ c.args.self.now.few _ c.requires.trailed.late _ _ c.loop-x.invariant c.loop-x-test.true _ c.unwrap-reach.ensures _ (subst (λ y. Shifted c.loop-x.row c.loop-x.x y c.unwrap-reach.result.by c.shift.new.row) c.from-via.ensures c.shift.ensures))

pub returns-clause-serving : goal.returns-clause-serving
returns-clause-serving g c = walk_ends _ _ _ _ _ c.args.self.now.few _ c.requires.trailed.late _ (subst (Walk _ _ _ _ _ _ _) c.loop-x-test.false c.loop-x.invariant) c.requires.inside c.args.self.now.inside c.requires.edge
