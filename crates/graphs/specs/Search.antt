-- What the search for a matching keeps, and what it answers.
use Rattle.std.specs.Prelude.{◌≡◌, ℕ, ◌<◌, ◌≤◌, Bool, true, false, List, length, Some, None, Option, IsSome, IsNone, slice_index_or}
use Rattle.graphs.specs.Graphs.{Shape, Row, at, Deficient}
use Rattle.graphs.specs.declared.matching.Hop.{Hop}
use Rattle.graphs.specs.declared.matching.Hop.TheVariants.{FromStart, FromOwnerOf}

-- a flag of a list of flags, false past its end
abbrev pub flag : List Bool → ℕ → Bool
flag flags a = slice_index_or flags a false

-- edges, no two at one node, for exactly the marked first-side nodes below k
pub record Matched (g : Shape) (marked : ℕ → Bool) (k : ℕ) (owner : Row) : Type 0 where
  pub wide : length owner ≡ 64
  pub edges : (b a : ℕ) → at owner b ≡ Some a → (a < k) × (b < g.seconds) × (g.joined a b ≡ true) × (marked a ≡ true)
  pub apart : (b c a : ℕ) → at owner b ≡ Some a → at owner c ≡ Some a → b ≡ c
  pub all : (a : ℕ) → a < k → marked a ≡ true → (b : ℕ) × (at owner b ≡ Some a)

-- some set of marked nodes is deficient
abbrev pub Hopeless : Shape → (ℕ → Bool) → Type 0
Hopeless g marked = (members : ℕ → Bool) × Deficient g marked members

-- how each second-side node was reached, if it was
abbrev pub Hops : Type 0
Hops = List (Option Hop)

abbrev pub hop_to : Hops → ℕ → Option Hop
hop_to hops b = slice_index_or hops b None

-- every neighbour of a is reached
abbrev pub Stale : Shape → Hops → ℕ → Type 0
Stale g hops a = (b : ℕ) → b < g.seconds → g.joined a b ≡ true → IsSome (hop_to hops b)

-- a neighbour b of a that is not reached
pub record Fresh (g : Shape) (hops : Hops) (a b : ℕ) : Type 0 where
  pub inside : b < g.seconds
  pub fits : b < 64
  pub unreached : IsNone (hop_to hops b)
  pub edge : g.joined a b ≡ true

-- a neighbour b of the owner of c, where c is reached and b is not
abbrev pub Onward : Shape → Row → Hops → ℕ → ℕ → Type 0
Onward g owner hops c b = IsSome (hop_to hops c) × ((a : ℕ) × (at owner c ≡ Some a) × Fresh g hops a b)

-- the owner of c, where c is reached, has none
abbrev pub Exhausted : Shape → Row → Hops → ℕ → Type 0
Exhausted g owner hops c = (a : ℕ) → IsSome (hop_to hops c) → at owner c ≡ Some a → Stale g hops a

-- a hop to a node that is not reached, from the start or from the owner of a node that is
abbrev pub Step : Shape → ℕ → Row → Hops → ℕ → Hop → Type 0
Step g start owner hops to FromStart = Fresh g hops start to
Step g start owner hops to (FromOwnerOf c) = Onward g owner hops c to

-- nothing that is reached leads out
pub record Closed (g : Shape) (start : ℕ) (owner : Row) (hops : Hops) : Type 0 where
  pub at_start : Stale g hops start
  pub onward : (c : ℕ) → c < g.seconds → Exhausted g owner hops c

-- each reached node is owned
abbrev pub Owned : Row → Hops → Type 0
Owned owner hops = (b : ℕ) → IsSome (hop_to hops b) → (a : ℕ) × (at owner b ≡ Some a)

-- the edge of a hop to b: from the start, or from the owner of a node that was reached on an earlier turn
abbrev pub Edge : Shape → ℕ → Row → Hops → (ℕ → ℕ) → ℕ → Hop → Type 0
Edge g start owner hops turn b FromStart = g.joined start b ≡ true
Edge g start owner hops turn b (FromOwnerOf c) = (turn c < turn b) × IsSome (hop_to hops c) × ((a : ℕ) × (at owner c ≡ Some a) × (g.joined a b ≡ true))

-- each node reached on turn r or before was reached over an edge
abbrev pub Tree : Shape → ℕ → Row → Hops → (ℕ → ℕ) → ℕ → Type 0
Tree g start owner hops turn r = (b : ℕ) (h : Hop) → hop_to hops b ≡ Some h → turn b ≤ r → (b < g.seconds) × (b < 64) × Edge g start owner hops turn b h

-- the hops of a search, and the turn on which each node was reached
pub record Grown (g : Shape) (start : ℕ) (owner : Row) (hops : Hops) : Type 0 where
  pub wide : length hops ≡ 64
  pub turn : ℕ → ℕ
  pub tree : (r : ℕ) → Tree g start owner hops turn r

-- hops from the start to a node that nobody owns
pub record Found (g : Shape) (start : ℕ) (owner : Row) (hops : Hops) (end : ℕ) : Type 0 where
  pub grown : Grown g start owner hops
  pub free : at owner end ≡ None
  pub reached : IsSome (hop_to hops end)

-- the state while the owners along a way move on: b is free, and a way leads to it
pub record Walk (g : Shape) (marked : ℕ → Bool) (start : ℕ) (owner : Row) (hops : Hops) (b : ℕ) : Type 0 where
  pub matched : Matched g marked start owner
  pub wide : length hops ≡ 64
  pub free : at owner b ≡ None
  pub reached : IsSome (hop_to hops b)
  pub turn : ℕ → ℕ
  pub tree : Tree g start owner hops turn (turn b)
