-- The trail of a search.
use Rattle.graphs.specs.declared.sides.Graph.{Ghosts}
use Rattle.pairings.specs.Rules.{marking}
use Rattle.preferences.specs.declared.search.Search.{Search}
use Rattle.preferences.specs.declared.trails.Trail.{Trail}
use Rattle.preferences.specs.Reach.{Trailed}

-- each node on the trail was reached from the search's start
abbrev pub IsTrail : {G : Type 0} {graph : Ghosts G} → Search G graph → Trail → Type 0
IsTrail {graph = graph} s t = Trailed (graph.shape s.graph.now) (marking s.marks.now) s.row.now s.start t
