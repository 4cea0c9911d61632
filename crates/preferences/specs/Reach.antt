-- What a search from a processor reaches, and what follows for every cover.
use Rattle.std.specs.Prelude.{◌≡◌, ℕ, ◌+◌, ◌<◌, ◌≤◌, Bool, true, false, not, T, ◌⊎◌, length, Some, None, Option, ◌≢◌, is_some, slice_index_or}
use Rattle.counting.specs.Sums.{count_below}
use Rattle.graphs.specs.Graphs.{Shape, Row, at}
use Rattle.graphs.specs.Covers.{Marking}
use Rattle.pairings.specs.Servings.{Serving}
use Rattle.preferences.specs.Preferences.{Order, EntryBefore}
use Rattle.preferences.specs.declared.trails.Trail.{Trail}
use Rattle.preferences.specs.declared.trails.Reach.{Reach}

-- the node at which a task lies: its holder, or the pool
abbrev pub node : Option ℕ → ℕ
node None = 16
node (Some q) = q

-- the nodes reached lead to no other
pub record Closed (g : Shape) (marks : Marking) (row holder : Row) (p : ℕ) (in' : ℕ → Bool) : Type 0 where
  pub start : in' p ≡ true
  pub later : (q : ℕ) → q < p → in' q ≡ false
  pub idle : (q : ℕ) → q < 16 → in' q ≡ true → at row q ≡ None → in' 16 ≡ true
  pub loose : (q t : ℕ) → q < 16 → in' q ≡ true → at row q ≡ Some t → marks.urgent t ≡ false → in' 16 ≡ true
  pub onward : (t r : ℕ) → t < g.firsts → p < r → r < g.seconds → g.joined t r ≡ true → in' (node (at holder t)) ≡ true → in' r ≡ true
  pub slack : (r t : ℕ) → in' 16 ≡ true → p < r → r < g.seconds → at row r ≡ Some t → marks.full r ≡ false → in' r ≡ true

-- a cover that agrees below p
pub record Agrees (g : Shape) (marks : Marking) (row : Row) (p : ℕ) (f : ℕ → Option ℕ) : Type 0 where
  pub serving : Serving g marks.urgent marks.full f
  pub same : (q : ℕ) → q < p → at row q ≡ f q

-- the row comes before another at a place below p
pub record Ahead (order : Order) (had row : Row) (p : ℕ) (f : ℕ → Option ℕ) : Type 0 where
  pub place : ℕ
  pub low : place < p
  pub same : (q : ℕ) → q < place → at row q ≡ f q
  pub differs : EntryBefore order place (at had place) (at row place) (f place)

-- the row serves all, and below p it is that of the first cover
pub record Leading (order : Order) (had : Row) (g : Shape) (marks : Marking) (row : Row) (p : ℕ) : Type 0 where
  pub wide : length row ≡ 16
  pub serving : Serving g marks.urgent marks.full (at row)
  pub first : (f : ℕ → Option ℕ) → Serving g marks.urgent marks.full f → ((q : ℕ) → q < p → at row q ≡ f q) ⊎ Ahead order had row p f

-- a row that serves all, agrees with another below p, and has the best entry at p
pub record Led (order : Order) (had : Option ℕ) (g : Shape) (marks : Marking) (row : Row) (p : ℕ) (next : Row) : Type 0 where
  pub wide : length next ≡ 16
  pub serving : Serving g marks.urgent marks.full (at next)
  pub same : (q : ℕ) → q < p → at next q ≡ at row q
  pub best : (f : ℕ → Option ℕ) → Agrees g marks row p f → (at next p ≡ f p) ⊎ EntryBefore order p had (at next p) (f p)

-- how a node was reached, if it was
abbrev pub reach_at : Trail → ℕ → Option Reach
reach_at t x = slice_index_or t.nodes x None

abbrev pub reach_depth : Option Reach → ℕ
reach_depth None = 0
reach_depth (Some r) = r.depth + 1

abbrev pub reach_via : Option Reach → ℕ
reach_via None = 0
reach_via (Some r) = r.via

abbrev pub reach_by : Option Reach → Option ℕ
reach_by None = None
reach_by (Some r) = r.by

abbrev pub reach_followed : Option Reach → Bool
reach_followed None = false
reach_followed (Some r) = r.followed

abbrev pub reached : Trail → ℕ → Bool
reached t x = is_some (reach_at t x)

-- how many nodes are on the way to a node, itself among them; 0 if it was not reached
abbrev pub depth_of : Trail → ℕ → ℕ
depth_of t x = reach_depth (reach_at t x)

abbrev pub via_of : Trail → ℕ → ℕ
via_of t x = reach_via (reach_at t x)

abbrev pub by_of : Trail → ℕ → Option ℕ
by_of t x = reach_by (reach_at t x)

abbrev pub followed : Trail → ℕ → Bool
followed t x = reach_followed (reach_at t x)

-- how many nodes are not followed
unfoldable pub left_over : Trail → ℕ
left_over t = count_below 17 (λ x. not (followed t x))

-- x takes the task that y holds
pub record Passes (g : Shape) (row : Row) (x y : ℕ) (by : Option ℕ) : Type 0 where
  pub task : ℕ
  pub inside : x < g.seconds
  pub holds : at row y ≡ Some task
  pub takes : by ≡ Some task
  pub edge : g.joined task x ≡ true

-- x takes a task of the pool
pub record Draws (g : Shape) (row : Row) (x y : ℕ) (by : Option ℕ) : Type 0 where
  pub task : ℕ
  pub pool : y ≡ 16
  pub inside : x < g.seconds
  pub low : task < g.firsts
  pub free : (q : ℕ) → at row q ≢ Some task
  pub takes : by ≡ Some task
  pub edge : g.joined task x ≡ true

-- x goes idle
pub record Idles (marks : Marking) (x y : ℕ) (by : Option ℕ) : Type 0 where
  pub pool : y ≡ 16
  pub slack : marks.full x ≡ false
  pub takes : by ≡ None

-- y lets go of what it holds
pub record Pools (marks : Marking) (row : Row) (x y : ℕ) : Type 0 where
  pub pool : x ≡ 16
  pub near : y < 16
  pub loose : (t : ℕ) → at row y ≡ Some t → marks.urgent t ≡ false

abbrev pub Kind : Shape → Marking → Row → ℕ → ℕ → Option ℕ → Type 0
Kind g marks row x y by = Passes g row x y by ⊎ (Draws g row x y by ⊎ (Idles marks x y by ⊎ Pools marks row x y))

pub record Hop (g : Shape) (marks : Marking) (row : Row) (t : Trail) (x : ℕ) : Type 0 where
  pub some : 0 < depth_of t (via_of t x)
  pub less : depth_of t (via_of t x) < depth_of t x
  pub kind : Kind g marks row x (via_of t x) (by_of t x)

abbrev pub Tree : Shape → Marking → Row → ℕ → Trail → ℕ → Type 0
Tree g marks row start t k = (x : ℕ) → 0 < depth_of t x → depth_of t x ≤ k → (x ≢ start) → Hop g marks row t x

-- the table of a search from the start: no way is longer than one through all nodes that are followed
pub record Trailed (g : Shape) (marks : Marking) (row : Row) (start : ℕ) (t : Trail) : Type 0 where
  pub wide : length t.nodes ≡ 17
  pub first : 0 < depth_of t start
  pub late : (x : ℕ) → 0 < depth_of t x → start ≤ x
  pub low : (x : ℕ) → depth_of t x + left_over t ≤ 18
  pub tree : Tree g marks row start t 18

-- y is reached, and the table has room for a way that is one longer
pub record HasRoom (t : Trail) (y : ℕ) : Type 0 where
  pub near : y < 17
  pub some : 0 < depth_of t y
  pub room : depth_of t y + left_over t ≤ 17

-- x is reached and not followed yet
pub record Pending (t : Trail) (x : ℕ) : Type 0 where
  pub near : x < 17
  pub some : 0 < depth_of t x
  pub open' : followed t x ≡ false

-- x is followed from now on
pub record Ticked (s : Trail) (x : ℕ) (t : Trail) : Type 0 where
  pub before : Pending s x
  pub wide : length t.nodes ≡ 17
  pub depth : depth_of t x ≡ depth_of s x
  pub via : via_of t x ≡ via_of s x
  pub by : by_of t x ≡ by_of s x
  pub after : followed t x ≡ true
  pub others : (z : ℕ) → (z ≢ x) → reach_at t z ≡ reach_at s z

-- what was reached still is, and no more is followed
pub record More (s t : Trail) : Type 0 where
  pub kept : (x : ℕ) → 0 < depth_of s x → depth_of t x ≡ depth_of s x
  pub same : (x : ℕ) → followed t x ≡ followed s x

-- all that x leads to is reached
pub record Followed (g : Shape) (marks : Marking) (row : Row) (start : ℕ) (t : Trail) (x : ℕ) : Type 0 where
  pub idle : at row x ≡ None → 0 < depth_of t 16
  pub loose : (a : ℕ) → at row x ≡ Some a → marks.urgent a ≡ false → 0 < depth_of t 16
  pub pass : (a r : ℕ) → at row x ≡ Some a → start < r → r < g.seconds → g.joined a r ≡ true → 0 < depth_of t r

-- all that the pool leads to is reached, below k
pub record Drawn (g : Shape) (marks : Marking) (row holder : Row) (start : ℕ) (t : Trail) (k : ℕ) : Type 0 where
  pub slack : (r a : ℕ) → start < r → r < k → at row r ≡ Some a → marks.full r ≡ false → 0 < depth_of t r
  pub draw : (a r : ℕ) → a < g.firsts → at holder a ≡ None → start < r → r < k → g.joined a r ≡ true → 0 < depth_of t r

abbrev pub Expanded : Shape → Marking → Row → Row → ℕ → Trail → ℕ → Type 0
Expanded g marks row holder start t x = (x < 16 → Followed g marks row start t x) × (x ≡ 16 → Drawn g marks row holder start t g.seconds)

-- while the task moves: x is empty, the task is with nobody
pub record Walk (g : Shape) (marks : Marking) (old : Row) (start task : ℕ) (t : Trail) (row : Row) (x : ℕ) : Type 0 where
  pub wide : length row ≡ 16
  pub edges : (q a : ℕ) → at row q ≡ Some a → (a < g.firsts) × (q < g.seconds) × (g.joined a q ≡ true)
  pub apart : (q r a : ℕ) → at row q ≡ Some a → at row r ≡ Some a → q ≡ r
  pub away : (q : ℕ) → at row q ≢ Some task
  pub hole : at row x ≡ None
  pub tasks : (a : ℕ) → a < g.firsts → marks.urgent a ≡ true → (a ≢ task) → (q : ℕ) × (at row q ≡ Some a)
  pub processors : (q : ℕ) → q < g.seconds → marks.full q ≡ true → (q ≢ x) → (a : ℕ) × (at row q ≡ Some a)
  pub same : (q : ℕ) → q < start → at row q ≡ at old q
  pub some : 0 < depth_of t x
  pub tree : Tree g marks row start t (depth_of t x)
  pub other : (z a : ℕ) → 0 < depth_of t z → depth_of t z ≤ depth_of t x → (z ≢ start) → via_of t z ≡ 16 → by_of t z ≡ Some a → a ≢ task

-- a row after y let go and x took
pub record Shifted (row : Row) (x y : ℕ) (v : Option ℕ) (next : Row) : Type 0 where
  pub wide : length next ≡ 16
  pub here : x < 16 → at next x ≡ v
  pub there : at next y ≡ None
  pub else' : (q : ℕ) → (q ≢ x) → (q ≢ y) → at next q ≡ at row q

-- the most preferred of the tasks below k that are joined to p and lie at a reached node
pub record Best (order : Order) (had : Option ℕ) (g : Shape) (holder : Row) (in' : ℕ → Bool) (p k a : ℕ) : Type 0 where
  pub low : a < g.firsts
  pub edge : g.joined a p ≡ true
  pub lies : in' (node (at holder a)) ≡ true
  pub best : (b : ℕ) → b < k → g.joined b p ≡ true → in' (node (at holder b)) ≡ true → (a ≡ b) ⊎ T (order p had a b)

abbrev pub Chosen : Order → Option ℕ → Shape → Row → (ℕ → Bool) → ℕ → ℕ → Option ℕ → Type 0
Chosen order had g holder in' p k None = (b : ℕ) → b < k → g.joined b p ≡ true → in' (node (at holder b)) ≢ true
Chosen order had g holder in' p k (Some a) = Best order had g holder in' p k a

-- while the search goes on: what is followed leads to nothing new
pub record Exploring (g : Shape) (marks : Marking) (row holder : Row) (start : ℕ) (t : Trail) : Type 0 where
  pub trailed : Trailed g marks row start t
  pub done : (x : ℕ) → x < 17 → followed t x ≡ true → Expanded g marks row holder start t x

-- while the task of y is passed on: the processors below k are seen
pub record Passing (g : Shape) (marks : Marking) (row : Row) (start y a : ℕ) (s t : Trail) (k : ℕ) : Type 0 where
  pub trailed : Trailed g marks row start t
  pub more : More s t
  pub room : HasRoom t y
  pub pass : (r : ℕ) → start < r → r < k → g.joined a r ≡ true → 0 < depth_of t r

-- while the pool is drawn on
pub record Drawing (g : Shape) (marks : Marking) (row holder : Row) (start : ℕ) (s t : Trail) (k : ℕ) : Type 0 where
  pub trailed : Trailed g marks row start t
  pub more : More s t
  pub room : HasRoom t 16
  pub drawn : Drawn g marks row holder start t k
