-- A graph has a cover or a short set of marked nodes, and never both; a load within its frame has a cover.
use Rattle.std.proofs.Common.{◌≡◌, ℕ, ◌<◌, ◌≤◌, Bool, true, cond, ◌&&◌, ltb, ◌⊎◌, map, length, Some, None, sym, ap, ◌∙◌, inl, inr, arith}
use Rattle.std.specs.List.{range_with_len}
use Rattle.std.proofs.lemmas.Bool.{cases_eq, cases_lt, cases_Bool, and_from, lt-ltb, le-ltb, eqb-true, cond-true, cond-false}
use Rattle.std.proofs.lemmas.List.FromFn.{length-map-range_with_len, get_or-map-range_with_len}
use Rattle.std.proofs.lemmas.List.{get_or_past}
use Rattle.counting.specs.Sums.{sum_below}
use Rattle.graphs.specs.Graphs as graphs
use Rattle.graphs.specs.Graphs.{Shape, Deficient, turned, neighbour, at}
use Rattle.graphs.specs.Covers.{Marking, Cover}
use Rattle.sheets.specs.Loads.{Load, task_total, processor_total}
use Rattle.plans.specs.Plans.{Plan, UnitPlan}
use Rattle.plans.specs.Remaining.{graph, marks}
use Rattle.plans.specs.Covers.{Short, Coverable, CoversStand, LoadsCovered}
use Rattle.counting.proofs.Sums.{sum_same, sum_le, sum_zero, sum_full, point_le_sum, positive_point}
use Rattle.plans.proofs.Searching.{test_from_T, T_from_test, any_from, bit, bit_le, bit_true, bit_false, count_by_pairs, cond_positive, cond_le}
use Rattle.plans.proofs.Rows.{Row, hit, used, hit_of, hit_named, place_of, same_place, none_or_some, some_entry, once_if_apart}
use Rattle.plans.proofs.Pairings.{Edge, Entries, Pairing}
use Rattle.plans.proofs.Hall.{MarkedPairing, hall}
use Rattle.plans.proofs.Joining.{join}
use Rattle.plans.proofs.Plannable.{plannable, task_once, processor_once, task_spread, processor_spread}

-- a cover as a function of the processor
pub record Covering (g : Shape) (m : Marking) (row : Row) : Type 0 where
  pub pairing : Pairing g row
  pub tasks : (u : ℕ) → u < g.firsts → m.urgent u ≡ true → used g.seconds row u ≡ 1
  pub processors : (q : ℕ) → q < g.seconds → m.full q ≡ true → row q ≡ None → ⊥

pairing_of : (g : Shape) (marked : ℕ → Bool) (row : Row) → MarkedPairing g marked row → Pairing g row
pairing_of g marked row paired = record { edges = λ q u h e. ((paired.entries q u h e).0, (paired.entries q u h e).1); once = paired.once }

covering_or_short : (g : Shape) (m : Marking) → ((row : Row) × Covering g m row) ⊎ Short g m
covering_or_short g m =
    elim (hall g m.urgent) [
      | inr short ↦ inr (inl short)
      | inl found ↦ elim (hall (turned g) m.full) [
        | inr short ↦ inr (inr short)
        | inl found' ↦
            let (row, pairs) = found in
            let (other, pairs') = found' in
            let (row', joined) = join g m.full other pairs' row (pairing_of g m.urgent row pairs.paired) in
            inl (
              row',
              record {
                pairing = joined.pairing;
                tasks = λ u h mark. omega (arith, pairs.all u h mark, joined.kept u, joined.pairing.once u);
                processors = joined.all;
              },
            )
      ]
    ]

-- the row as a list
listed : ℕ → Row → graphs.Row
listed m row = map (λ q. cond (ltb q m) (row q) None) (range_with_len 0 16)

listed_wide : (m : ℕ) (row : Row) → length (listed m row) ≡ 16
unfolding listed
listed_wide m row = length-map-range_with_len (λ q. cond (ltb q m) (row q) None) 0 16

listed_at : (m : ℕ) (row : Row) (q : ℕ) → q < 16 → at (listed m row) q ≡ cond (ltb q m) (row q) None
unfolding listed
listed_at m row q h = get_or-map-range_with_len (λ i. cond (ltb i m) (row i) None) 0 16 q q None h (omega arith)

listed_in : (m : ℕ) (row : Row) → m ≤ 16 → (q : ℕ) → q < m → at (listed m row) q ≡ row q
listed_in m row wide q h = listed_at m row q (omega arith) ∙ cond-true (ltb q m) (row q) None (lt-ltb q m h)

listed_some : (m : ℕ) (row : Row) (q t : ℕ) → at (listed m row) q ≡ Some t → (q < m) × (row q ≡ Some t)
listed_some m row q t e =
    elim (cases_lt q 16) [
      | inr past ↦ absurd (none_or_some (at (listed m row) q) t (get_or_past (listed m row) q None (omega (arith, listed_wide m row))) e)
      | inl near ↦ elim (cases_lt q m) [
        | inl h ↦ (h, sym (listed_at m row q near ∙ cond-true (ltb q m) (row q) None (lt-ltb q m h)) ∙ e)
        | inr h ↦ absurd (none_or_some (at (listed m row) q) t (listed_at m row q near ∙ cond-false (ltb q m) (row q) None (le-ltb q m h)) e)
      ]
    ]

cover_from : (g : Shape) (m : Marking) → g.seconds ≤ 16 → (row : Row) → Covering g m row → Cover g m (listed g.seconds row)
cover_from g m wide row covering =
    record {
      few = wide;
      wide = listed_wide g.seconds row;
      edges = λ p t e.
          let (h, named) = listed_some g.seconds row p t e in
          let (first, edge) = covering.pairing.edges p t h named in
          (first, h, T_from_test (g.joined t p) edge);
      apart = λ p q t ep eq.
          let (hp, np) = listed_some g.seconds row p t ep in
          let (hq, nq) = listed_some g.seconds row q t eq in
          same_place g.seconds row t p q (covering.pairing.once t) hp hq np nq;
      tasks = λ t h mark.
          let (p, hp, e) = place_of g.seconds row t (λ z. omega (arith, covering.tasks t h (test_from_T (m.urgent t) mark))) in
          (p, listed_in g.seconds row wide p hp ∙ e);
      processors = λ p h mark.
          let (t, e) = some_entry (row p) (covering.processors p h (test_from_T (m.full p) mark)) in
          (t, listed_in g.seconds row wide p h ∙ e);
    }

covering_from : (g : Shape) (m : Marking) (row : graphs.Row) → Cover g m row → Covering g m (at row)
covering_from g m row cover =
    let once : (u : ℕ) → used g.seconds (at row) u ≤ 1 = λ u. once_if_apart g.seconds (at row) u (λ p q hp hq. cover.apart p q u) in
    record {
      pairing = record { edges = λ q u h e. let (first, second, edge) = cover.edges q u e in (first, test_from_T (g.joined u q) edge); once = once };
      tasks = λ u h mark.
          let (p, e) = cover.tasks u h (T_from_test (m.urgent u) mark) in
          omega (arith, once u, point_le_sum g.seconds (λ q. hit u (at row q)) p (cover.edges p u e).1, hit_of u (at row p) e);
      processors = λ q h mark none.
          let (t, e) = cover.processors q h (T_from_test (m.full q) mark) in
          none_or_some (at row q) t none e;
    }

-- a short set of tasks has no cover
tasks_not_short : (g : Shape) (m : Marking) (row : Row) (members : ℕ → Bool) → Covering g m row → Deficient g m.urgent members → ⊥
tasks_not_short g m row members covering short = omega (arith, short.fewer, count_by_pairs g.firsts g.seconds members (neighbour g members) pair each fits)
  where
    pair : ℕ → ℕ → ℕ
    pair a b = cond (members a) (hit a (row b)) 0

    each : (a : ℕ) → a < g.firsts → bit (members a) ≤ sum_below g.seconds (λ b. pair a b)
    each a ha = elim (cases_Bool (members a)) [
      | inl member ↦ omega (
        arith,
        bit_le (members a),
        sum_same g.seconds (λ b. pair a b) (λ b. hit a (row b)) (λ b h. cond-true (members a) (hit a (row b)) 0 member),
        covering.tasks a ha (test_from_T (m.urgent a) (short.within a ha (T_from_test (members a) member))),
      )
      | inr out ↦ omega (arith, bit_false (members a) out)
    ]

    fits : (b : ℕ) → b < g.seconds → sum_below g.firsts (λ a. pair a b) ≤ bit (neighbour g members b)
    fits b hb = elim (cases_eq (sum_below g.firsts (λ a. pair a b)) 0) [
      | inl none ↦ omega arith
      | inr some ↦
          let (a, ha, here) = positive_point g.firsts (λ c. pair c b) (omega arith) in
          let (member, named) = cond_positive (members a) (hit a (row b)) here in
          let near = any_from g.firsts (λ c. members c && g.joined c b) a ha (and_from (members a) (g.joined a b) member (covering.pairing.edges b a hb (hit_named a (row b) named)).1) in
          omega (arith, bit_true (neighbour g members b) near, sum_le g.firsts (λ c. pair c b) (λ c. hit c (row b)) (λ c h. cond_le (members c) (hit c (row b))), processor_once g.firsts (row b))
    ]

processors_not_short : (g : Shape) (m : Marking) (row : Row) (members : ℕ → Bool) → Covering g m row → Deficient (turned g) m.full members → ⊥
processors_not_short g m row members covering short = omega (arith, short.fewer, count_by_pairs g.seconds g.firsts members (neighbour (turned g) members) pair each fits)
  where
    pair : ℕ → ℕ → ℕ
    pair q u = cond (members q) (hit u (row q)) 0

    each : (q : ℕ) → q < g.seconds → bit (members q) ≤ sum_below g.firsts (λ u. pair q u)
    each q hq = elim (cases_Bool (members q)) [
      | inl member ↦
          let (u, named) = some_entry (row q) (covering.processors q hq (test_from_T (m.full q) (short.within q hq (T_from_test (members q) member)))) in
          omega (arith, bit_le (members q), point_le_sum g.firsts (λ v. pair q v) u (covering.pairing.edges q u hq named).0, cond-true (members q) (hit u (row q)) 0 member, hit_of u (row q) named)
      | inr out ↦ omega (arith, bit_false (members q) out)
    ]

    fits : (u : ℕ) → u < g.firsts → sum_below g.seconds (λ q. pair q u) ≤ bit (neighbour (turned g) members u)
    fits u hu = elim (cases_eq (sum_below g.seconds (λ q. pair q u)) 0) [
      | inl none ↦ omega arith
      | inr some ↦
          let (q, hq, here) = positive_point g.seconds (λ c. pair c u) (omega arith) in
          let (member, named) = cond_positive (members q) (hit u (row q)) here in
          let near = any_from g.seconds (λ c. members c && g.joined u c) q hq (and_from (members q) (g.joined u q) member (covering.pairing.edges q u hq (hit_named u (row q) named)).1) in
          omega (arith, bit_true (neighbour (turned g) members u) near, sum_le g.seconds (λ c. pair c u) (λ c. hit u (row c)) (λ c h. cond_le (members c) (hit u (row c))), covering.pairing.once u)
    ]

pub covers_stand : CoversStand
covers_stand g m wide = (either, never)
  where
    either : Coverable g m ⊎ Short g m
    either = elim (covering_or_short g m) [
      | inl found ↦ inl (listed g.seconds found.0, cover_from g m wide found.0 found.1)
      | inr short ↦ inr short
    ]

    never : Coverable g m → Short g m → ⊥
    never (row, cover) (inl short) = tasks_not_short g m (at row) short.0 (covering_from g m row cover) short.1
    never (row, cover) (inr short) = processors_not_short g m (at row) short.0 (covering_from g m row cover) short.1

-- the first tick of a plan
first_tick : (s : Load) (plan : Plan) → UnitPlan s plan → 0 < s.frame → Covering (graph s) (marks s) (plan 0)
first_tick s plan unit some =
    record {
      pairing = record { edges = edges; once = λ u. task_once s plan unit 0 u some };
      tasks = λ u hu mark. sum_full s.frame (λ k. used s.processors (plan k) u) (λ k hk. task_once s plan unit k u hk)
          (omega (arith, task_spread s plan unit u hu, eqb-true (task_total s u) s.frame mark)) 0 some;
      processors = λ q hq mark none.
          let busy = sum_full s.frame (λ k. sum_below s.tasks (λ t. hit t (plan k q))) (λ k hk. processor_once s.tasks (plan k q))
          (omega (arith, processor_spread s plan unit q hq, eqb-true (processor_total s q) s.frame mark)) 0 some in
          omega (arith, sum_zero s.tasks (λ t. hit t (plan 0 q)) (λ t h. ap (hit t) none));
    }
  where
    edges : Entries s.processors (Edge (graph s)) (plan 0)
    edges q u hq e =
        let hu = unit.names 0 q u some hq e in
        let ticks : 0 < s.ticks u q = omega (arith, point_le_sum s.frame (λ k. hit u (plan k q)) 0 some, hit_of u (plan 0 q) e, unit.exact u q hu hq) in
        (hu, and_from (ltb u s.tasks) (ltb q s.processors && ltb 0 (s.ticks u q)) (lt-ltb u s.tasks hu) (and_from (ltb q s.processors) (ltb 0 (s.ticks u q)) (lt-ltb q s.processors hq) (lt-ltb 0 (s.ticks u q) ticks)))

pub loads_covered : LoadsCovered
loads_covered s wide within some =
    let (plan, unit) = plannable s within in
    (listed s.processors (plan 0), cover_from (graph s) (marks s) wide (plan 0) (first_tick s plan unit some))
