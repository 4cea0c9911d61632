-- Hall's theorem: the marked first nodes can all be paired, or some of them have too few neighbours.
use Rattle.std.proofs.Common.{◌≡◌, ℕ, zero, suc, ◌+◌, ◌<◌, ◌≤◌, Bool, true, false, cond, not, ◌&&◌, eqb, ◌⊎◌, Some, None, Option, sym, refl, ap, ◌∙◌, subst, inl, inr, arith}
use Rattle.std.proofs.lemmas.Bool.{cases_eq, cases_Bool, both_ways, true≢false, and_parts, and_cases, eqb-true, eq-eqb, not-true, not-false, cond-true, cond-false}
use Rattle.counting.specs.Sums.{sum_below, count_below}
use Rattle.graphs.specs.Graphs.{Shape, neighbour, Deficient}
use Rattle.counting.proofs.Sums.{sum_same, sum_add, sum_le, sum_zero, sum_swap, sum_changed_at, sum_le_bound, point_le_sum}
use Rattle.plans.proofs.Searching.{test_from_T, T_from_test, find_below, some_of, bit, bit_le, bit_true, bit_false}
use Rattle.plans.proofs.Rows.{Row, hit, used, put, nobody, put_at, put_off, hit_same, hit_other, hit_of, used_put, used_none, none_or_some, same_entry}
use Rattle.plans.proofs.Pairings.{Entries, nobody_entries, entries_put}

-- may stand in the row of a pairing of marked nodes
abbrev pub Marked : Shape → (ℕ → Bool) → ℕ → ℕ → Type 0
Marked g marked u q = (u < g.firsts) × (g.joined u q ≡ true) × (marked u ≡ true)

-- a pairing of marked nodes
pub record MarkedPairing (g : Shape) (marked : ℕ → Bool) (row : Row) : Type 0 where
  pub entries : Entries g.seconds (Marked g marked) row
  pub once : (u : ℕ) → used g.seconds row u ≤ 1

-- a pairing that has the new node a in place of x, and differs from the row only where the row names members
record Freed (g : Shape) (marked : ℕ → Bool) (row : Row) (a : ℕ) (members : ℕ → Bool) (x : ℕ) (row' : Row) : Type 0 where
  entries : Entries g.seconds (Marked g marked) row'
  balance : (u : ℕ) → used g.seconds row' u + hit u (Some x) ≡ used g.seconds row u + hit u (Some a)
  same : (q y : ℕ) → q < g.seconds → row q ≡ Some y → members y ≡ false → row' q ≡ Some y
  idle : (q : ℕ) → q < g.seconds → row q ≡ None → row' q ≡ None

-- the members: the new node a and nodes whose places it could take
record Reached (g : Shape) (marked : ℕ → Bool) (row : Row) (a : ℕ) (members : ℕ → Bool) : Type 0 where
  has : members a ≡ true
  within : (x : ℕ) → members x ≡ true → (x < g.firsts) × (marked x ≡ true)
  freed : (x : ℕ) → members x ≡ true → (row' : Row) × Freed g marked row a members x row'

-- a row with the node a too
abbrev Extended : Shape → (ℕ → Bool) → Row → ℕ → Type 0
Extended g marked row a = (row' : Row) × Entries g.seconds (Marked g marked) row' × ((u : ℕ) → used g.seconds row' u ≡ used g.seconds row u + hit u (Some a))

-- the entry names no member
abbrev outside : (ℕ → Bool) → Option ℕ → Bool
outside members None = true
outside members (Some y) = not (members y)

-- an entry that is not outside names a member
inside_names : (members : ℕ → Bool) (o : Option ℕ) → outside members o ≡ false → (y : ℕ) × (o ≡ Some y) × (members y ≡ true)
inside_names members None e = absurd (true≢false e)
inside_names members (Some y) e = (y, refl, not-false (members y) e)

not_grown : (members : ℕ → Bool) (y z : ℕ) → put members y true z ≡ false → (z ≡ y → ⊥) × (members z ≡ false)
not_grown members y z e =
    let other : z ≡ y → ⊥ = λ d. both_ways (put members y true z) e (put_at members y true z d) in
    (other, sym (put_off members y true z other) ∙ e)

still_member : (members : ℕ → Bool) (y z : ℕ) → members z ≡ true → put members y true z ≡ true
still_member members y z e = elim (cases_eq z y) [ inl d ↦ put_at members y true z d | inr ne ↦ put_off members y true z ne ∙ e ]

count_grown : (n : ℕ) (members : ℕ → Bool) (y : ℕ) → y < n → members y ≡ false → count_below n (put members y true) ≡ suc (count_below n members)
count_grown n members y hy new =
    let changed = sum_changed_at n (λ i. bit (put members y true i)) (λ i. bit (members i)) y hy (λ i l ne. ap bit (put_off members y true i ne)) in
    omega (arith, bit_false (members y) new, bit_true (put members y true y) (put_at members y true y refl))

count_le : (n : ℕ) (members : ℕ → Bool) → count_below n members ≤ n
count_le n members = sum_le_bound n (λ i. bit (members i)) (λ i h. bit_le (members i))

module _ (g : Shape) (marked : ℕ → Bool) (row : Row) (paired : MarkedPairing g marked row) (a : ℕ) (a_first : a < g.firsts) (a_marked : marked a ≡ true) (a_free : used g.seconds row a ≡ 0) where
  start : Reached g marked row a (λ x. eqb x a)
  start =
      record {
        has = eq-eqb a a refl;
        within = λ x e. (omega (arith, eqb-true x a e), ap marked (eqb-true x a e) ∙ a_marked);
        freed = λ x e. (
          row,
          record {
            entries = paired.entries;
            balance = λ u. ap (λ v. used g.seconds row u + hit u (Some v)) (eqb-true x a e);
            same = λ q y h some new. some;
            idle = λ q h none. none;
          },
        );
      }

  -- a member has an edge to a place that the row leaves idle
  extend : (members : ℕ → Bool) (x q : ℕ) (row' : Row) → Freed g marked row a members x row' → Marked g marked x q → q < g.seconds → row q ≡ None → Extended g marked row a
  extend members x q row' freed edge hq none = (
    put row' q (Some x),
    entries_put g.seconds (Marked g marked) row' q x freed.entries edge,
    λ u. omega (arith, used_put g.seconds row' q (Some x) u hq, ap (hit u) (freed.idle q hq none), freed.balance u),
  )

  -- a member has an edge to the place of a node that is no member
  grow_freed : (members : ℕ → Bool) (x q y : ℕ) (row' : Row) → Freed g marked row a members x row' → Marked g marked x q → q < g.seconds → row q ≡ Some y → members y ≡ false →
      Freed g marked row a (put members y true) y (put row' q (Some x))
  grow_freed members x q y row' freed edge hq some new =
      record {
        entries = entries_put g.seconds (Marked g marked) row' q x freed.entries edge;
        balance = λ u. omega (arith, used_put g.seconds row' q (Some x) u hq, ap (hit u) (freed.same q y hq some new), freed.balance u);
        same = λ r z h named out.
            let (other, old) = not_grown members y z out in
            put_off row' q (Some x) r (λ d. other (same_entry (row r) z y named (ap row d ∙ some))) ∙ freed.same r z h named old;
        idle = λ r h none. put_off row' q (Some x) r (λ d. none_or_some (row r) y none (ap row d ∙ some)) ∙ freed.idle r h none;
      }

  keep_freed : (members : ℕ → Bool) (x y : ℕ) (row' : Row) → Freed g marked row a members x row' → Freed g marked row a (put members y true) x row'
  keep_freed members x y row' freed =
      record {
        entries = freed.entries;
        balance = freed.balance;
        same = λ q z h named out. freed.same q z h named (not_grown members y z out).1;
        idle = freed.idle;
      }

  grow : (members : ℕ → Bool) → Reached g marked row a members → (x q y : ℕ) → members x ≡ true → g.joined x q ≡ true → q < g.seconds → row q ≡ Some y → members y ≡ false →
      Reached g marked row a (put members y true)
  grow members reached x q y member edge hq some new =
      let edge' : Marked g marked x q = ((reached.within x member).0, edge, (reached.within x member).1) in
      let (row', freed) = reached.freed x member in
      let taken : Marked g marked y q = paired.entries q y hq some in
      record {
        has = still_member members y a reached.has;
        within = λ z e. elim (cases_eq z y) [
          | inl d ↦ (omega arith, ap marked d ∙ taken.2)
          | inr ne ↦ reached.within z (sym (put_off members y true z ne) ∙ e)
        ];
        freed = λ z e. elim (cases_eq z y) [
          | inl d ↦ subst (λ v. (row'' : Row) × Freed g marked row a (put members y true) v row'') (sym d) (put row' q (Some x), grow_freed members x q y row' freed edge' hq some new)
          | inr ne ↦
              let (row'', kept) = reached.freed z (sym (put_off members y true z ne) ∙ e) in
              (row'', keep_freed members z y row'' kept)
        ];
      }

  -- one where the row has the member y at q
  abbrev pair : (ℕ → Bool) → ℕ → ℕ → ℕ
  pair members y q = cond (members y) (hit y (row q)) 0

  neighbour_paired : (members : ℕ → Bool) (q : ℕ) → q < g.seconds → (neighbour g members q && outside members (row q)) ≡ false → bit (neighbour g members q) ≤ sum_below g.firsts (λ y. pair members y q)
  neighbour_paired members q hq none =
      elim (and_cases (neighbour g members q) (outside members (row q)) none) [
        | inl far ↦ omega (arith, bit_false (neighbour g members q) far)
        | inr inside ↦
            let (y, some, member) = inside_names members (row q) inside in
            omega (
              arith,
              bit_le (neighbour g members q),
              point_le_sum g.firsts (λ z. pair members z q) y (paired.entries q y hq some).0,
              cond-true (members y) (hit y (row q)) 0 member,
              hit_of y (row q) some,
            )
      ]

  member_paired : (members : ℕ → Bool) → Reached g marked row a members → (y : ℕ) → sum_below g.seconds (λ q. pair members y q) + hit y (Some a) ≤ bit (members y)
  member_paired members reached y =
      elim (cases_Bool (members y)) [
        | inl member ↦ elim (cases_eq a y) [
          | inl e ↦ omega (arith, sum_same g.seconds (λ q. pair members y q) (λ q. hit y (row q)) (λ q h. cond-true (members y) (hit y (row q)) 0 member), bit_true (members y) member, hit_same y a e, ap (used g.seconds row) e, a_free)
          | inr ne ↦ omega (arith, sum_same g.seconds (λ q. pair members y q) (λ q. hit y (row q)) (λ q h. cond-true (members y) (hit y (row q)) 0 member), bit_true (members y) member, hit_other y a ne, paired.once y)
        ]
        | inr out ↦ omega (
          arith,
          sum_zero g.seconds (λ q. pair members y q) (λ q h. cond-false (members y) (hit y (row q)) 0 out),
          hit_other y a (λ e. both_ways (members y) out (ap members (sym e) ∙ reached.has)),
        )
      ]

  -- every neighbour of the members is the place of a member
  closed : (members : ℕ → Bool) → Reached g marked row a members → ((q : ℕ) → q < g.seconds → (neighbour g members q && outside members (row q)) ≡ false) → Deficient g marked members
  closed members reached none =
      record {
        within = λ x h t. T_from_test (marked x) (reached.within x (test_from_T (members x) t)).1;
        fewer = omega (
          arith,
          sum_le g.seconds (λ q. bit (neighbour g members q)) (λ q. sum_below g.firsts (λ y. pair members y q)) (λ q hq. neighbour_paired members q hq (none q hq)),
          sum_swap g.seconds g.firsts (λ q y. pair members y q),
          sum_le g.firsts (λ y. sum_below g.seconds (λ q. pair members y q) + hit y (Some a)) (λ y. bit (members y)) (λ y h. member_paired members reached y),
          sum_add g.firsts (λ y. sum_below g.seconds (λ q. pair members y q)) (λ y. hit y (Some a)),
          point_le_sum g.firsts (λ y. hit y (Some a)) a a_first,
          hit_same a a refl,
        );
      }

  -- what the search ends with
  abbrev Outcome : Type 0
  Outcome = Extended g marked row a ⊎ ((members : ℕ → Bool) × Deficient g marked members)

  -- an open neighbour was found: its place is idle, or is that of a node to go on with
  step : (members : ℕ → Bool) → Reached g marked row a members →
      ((y : ℕ) → y < g.firsts → members y ≡ false → Reached g marked row a (put members y true) → Outcome) →
      (q : ℕ) → q < g.seconds → neighbour g members q ≡ true → (o : Option ℕ) → row q ≡ o → outside members o ≡ true → Outcome
  step members reached rest q hq near None none out =
      let (x, hx, both) = some_of g.firsts (λ z. members z && g.joined z q) near in
      let (member, edge) = and_parts (members x) (g.joined x q) both in
      let (row', freed) = reached.freed x member in
      inl (extend members x q row' freed (hx, edge, (reached.within x member).1) hq none)
  step members reached rest q hq near (Some y) some out =
      let (x, hx, both) = some_of g.firsts (λ z. members z && g.joined z q) near in
      let (member, edge) = and_parts (members x) (g.joined x q) both in
      let new : members y ≡ false = not-true (members y) out in
      rest y (paired.entries q y hq some).0 new (grow members reached x q y member edge hq some new)

  look : (members : ℕ → Bool) → Reached g marked row a members →
      ((y : ℕ) → y < g.firsts → members y ≡ false → Reached g marked row a (put members y true) → Outcome) → Outcome
  look members reached rest =
      elim (find_below g.seconds (λ q. neighbour g members q && outside members (row q))) [
        | inl found ↦
            let (q, hq, both) = found in
            let (near, out) = and_parts (neighbour g members q) (outside members (row q)) both in
            step members reached rest q hq near (row q) refl out
        | inr none ↦ inr (members, closed members reached none)
      ]

  search_on : (fuel : ℕ) (members : ℕ → Bool) → Reached g marked row a members → g.firsts ≤ count_below g.firsts members + fuel → Outcome
  search_on zero members reached enough =
      look members reached (λ y hy new reached'. absurd (omega (arith, count_grown g.firsts members y hy new, count_le g.firsts (put members y true))))
  search_on (suc fuel) members reached enough =
      look members reached (λ y hy new reached'. search_on fuel (put members y true) reached' (omega (arith, count_grown g.firsts members y hy new)))

  extended : Outcome
  extended = search_on g.firsts (λ x. eqb x a) start (omega arith)

-- a pairing of marked nodes that has all of those below k
pub record PairsBelow (g : Shape) (marked : ℕ → Bool) (k : ℕ) (row : Row) : Type 0 where
  pub paired : MarkedPairing g marked row
  pub all : (u : ℕ) → u < k → marked u ≡ true → used g.seconds row u ≡ 1

pairs_keep : (g : Shape) (marked : ℕ → Bool) (k : ℕ) (row : Row) → PairsBelow g marked k row → (marked k ≡ true → used g.seconds row k ≡ 1) → PairsBelow g marked (suc k) row
pairs_keep g marked k row pairs here =
    record {
      paired = pairs.paired;
      all = λ u h mark. elim (cases_eq k u) [
        | inl e ↦ ap (used g.seconds row) (sym e) ∙ here (ap marked e ∙ mark)
        | inr ne ↦ pairs.all u (omega arith) mark
      ];
    }

pairs_extend : (g : Shape) (marked : ℕ → Bool) (k : ℕ) (row : Row) → PairsBelow g marked k row → used g.seconds row k ≡ 0 → Extended g marked row k → (row' : Row) × PairsBelow g marked (suc k) row'
pairs_extend g marked k row pairs free (row', entries, uses) = (
  row',
  pairs_keep g marked k row' (record {
    paired = record {
      entries = entries;
      once = λ u. elim (cases_eq k u) [
        | inl e ↦ omega (arith, uses u, hit_same u k e, ap (used g.seconds row) e)
        | inr ne ↦ omega (arith, uses u, hit_other u k ne, pairs.paired.once u)
      ];
    };
    all = λ u h mark. omega (arith, uses u, hit_other u k (λ e. omega arith), pairs.all u h mark);
  }) (λ mark. omega (arith, uses k, hit_same k k refl)),
)

hall_below : (g : Shape) (marked : ℕ → Bool) (k : ℕ) → k ≤ g.firsts → ((row : Row) × PairsBelow g marked k row) ⊎ ((members : ℕ → Bool) × Deficient g marked members)
hall_below g marked zero h =
    inl (
      nobody,
      record {
        paired = record { entries = nobody_entries g.seconds (Marked g marked); once = λ u. omega (arith, used_none g.seconds u) };
        all = λ u below mark. absurd (omega arith);
      },
    )
hall_below g marked (suc k) h =
    elim (hall_below g marked k (omega arith)) [
      | inr short ↦ inr short
      | inl found ↦ let (row, pairs) = found in elim (cases_Bool (marked k)) [
        | inr plain ↦ inl (row, pairs_keep g marked k row pairs (λ mark. absurd (both_ways (marked k) plain mark)))
        | inl mark ↦ elim (cases_eq (used g.seconds row k) 0) [
          | inr has ↦ inl (row, pairs_keep g marked k row pairs (λ _. omega (arith, pairs.paired.once k)))
          | inl free ↦ elim (extended g marked row pairs.paired k h mark free) [
            | inl more ↦ inl (pairs_extend g marked k row pairs free more)
            | inr short ↦ inr short
          ]
        ]
      ]
    ]

pub hall : (g : Shape) (marked : ℕ → Bool) → ((row : Row) × PairsBelow g marked g.firsts row) ⊎ ((members : ℕ → Bool) × Deficient g marked members)
hall g marked = hall_below g marked g.firsts (omega arith)
