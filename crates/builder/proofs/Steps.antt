-- One slot more is laid: what is left fits its frame again, and less is to do.
use Rattle.std.proofs.Common.{◌≡◌, ℕ, zero, suc, ◌+◌, ◌-◌, ◌<◌, ◌≤◌, true, false, cond, ◌&&◌, eqb, ltb, ◌⊎◌, Some, None, Option, refl, ap, ◌∙◌, inl, inr, arith}
use Rattle.std.proofs.lemmas.Bool.{cases_eq, cases_lt, eq-eqb, ne_eqb, ltb-true, cond-true, cond-false, and_parts}
use Rattle.std.proofs.lemmas.Bool.Decides.{nat_tests}
use Rattle.counting.specs.Sums.{sum_below}
use Rattle.graphs.specs.Graphs.{Row, at}
use Rattle.graphs.specs.Covers.{Cover}
use Rattle.sheets.specs.Loads.{Load, task_total, processor_total, loads, places_needed}
use Rattle.plans.specs.Plans.{is_task, Within}
use Rattle.plans.specs.Remaining.{graph, marks}
use Rattle.counting.proofs.Sums.{sum_same, sum_le, sum_zero, sum_changed_at, point_le_sum, sum_le_bound}
use Rattle.plans.proofs.Rows.{hit, used, hit_of, place_of, none_or_some, same_entry}
use Rattle.plans.proofs.Searching.{test_from_T, T_from_test}
use Rattle.builder.specs.Building.{MayLast, Longest, laid}

pub sum_lt : (k : ℕ) (f g : ℕ → ℕ) → ((i : ℕ) → i < k → f i ≤ g i) → (p : ℕ) → p < k → f p < g p → sum_below k f < sum_below k g
sum_lt zero f g below p h less = absurd (omega arith)
sum_lt (suc k) f g below p h less =
    elim (cases_eq p k) [
      | inl e ↦ omega (arith, ap f e, ap g e, sum_le k f g (λ i l. below i (omega arith)))
      | inr ne ↦ omega (arith, below k (omega arith), sum_lt k f g (λ i l. below i (omega arith)) p (omega arith) less)
    ]

pub is_task_false : (t : ℕ) (o : Option ℕ) → (o ≡ Some t → ⊥) → is_task t o ≡ false
is_task_false t None ne = refl
is_task_false t (Some a) ne = ne_eqb a t (λ e. ne (ap Some e))

pub is_task_true : (t : ℕ) (o : Option ℕ) → o ≡ Some t → is_task t o ≡ true
is_task_true t o e = ap (is_task t) e ∙ eq-eqb t t refl

pub cases_entry : (o : Option ℕ) (t : ℕ) → (o ≡ Some t) ⊎ (o ≡ Some t → ⊥)
cases_entry None t = inr (none_or_some None t refl)
cases_entry (Some a) t = elim (cases_eq a t) [ inl e ↦ inl (ap Some e) | inr ne ↦ inr (λ e. ne (same_entry (Some a) a t refl e)) ]

pub none_or_named : (o : Option ℕ) → (o ≡ None) ⊎ ((t : ℕ) × (o ≡ Some t))
none_or_named None = inl refl
none_or_named (Some t) = inr (t, refl)

-- a row has the task below m, or has not
pub cases_paired : (m : ℕ) (row : Row) (t : ℕ) → ((p : ℕ) × (p < m) × (at row p ≡ Some t)) ⊎ ((p : ℕ) → p < m → at row p ≡ Some t → ⊥)
cases_paired m row t =
    elim (cases_eq (used m (at row) t) 0) [
      | inl z ↦ inr (λ p h e. omega (arith, point_le_sum m (λ q. hit t (at row q)) p h, hit_of t (at row p) e))
      | inr nz ↦ inl (place_of m (at row) t nz)
    ]

pub laid_at : (left : Load) (row : Row) (d t p : ℕ) → at row p ≡ Some t → (laid left row d).ticks t p ≡ left.ticks t p - d
laid_at left row d t p e = cond-true (is_task t (at row p)) (left.ticks t p - d) (left.ticks t p) (is_task_true t (at row p) e)

pub laid_off : (left : Load) (row : Row) (d t p : ℕ) → (at row p ≡ Some t → ⊥) → (laid left row d).ticks t p ≡ left.ticks t p
laid_off left row d t p ne = cond-false (is_task t (at row p)) (left.ticks t p - d) (left.ticks t p) (is_task_false t (at row p) ne)

pub laid_le : (left : Load) (row : Row) (d t p : ℕ) → (laid left row d).ticks t p ≤ left.ticks t p
laid_le left row d t p = grind (arith, nat_tests)

-- one for a pair with ticks, and one for a line that has slack
abbrev some_left : ℕ → ℕ
some_left n = cond (ltb 0 n) 1 0

abbrev slack : ℕ → ℕ → ℕ
slack total frame = cond (eqb total frame) 0 1

some_left_le : (a b : ℕ) → a ≤ b → some_left a ≤ some_left b
some_left_le a b h = grind (arith, nat_tests)

some_left_lt : (a b : ℕ) → a ≡ 0 → 0 < b → some_left a < some_left b
some_left_lt a b z h = grind (arith, nat_tests)

slack_small : (a f : ℕ) → slack a f ≤ 1
slack_small a f = grind (arith, nat_tests)

slack_full : (a f : ℕ) → a ≡ f → slack a f ≡ 0
slack_full a f e = grind (arith, nat_tests)

slack_some : (a f : ℕ) → (a ≡ f → ⊥) → slack a f ≡ 1
slack_some a f ne = grind (arith, nat_tests)

slack_le : (a f b g : ℕ) → (b ≡ g → a ≡ f) → slack a f ≤ slack b g
slack_le a f b g h = grind (arith, nat_tests)

slack_lt : (a f b g : ℕ) → (b ≡ g → ⊥) → a ≡ f → slack a f < slack b g
slack_lt a f b g ne e = grind (arith, nat_tests)

-- pairs with ticks, and lines with slack
abbrev pub potential : Load → ℕ
potential s = loads s + sum_below s.tasks (λ t. slack (task_total s t) s.frame) + sum_below s.processors (λ p. slack (processor_total s p) s.frame)

pub potential_small : (s : Load) → potential s ≤ places_needed s
potential_small s =
    omega (
      arith,
      sum_le_bound s.tasks (λ t. slack (task_total s t) s.frame) (λ t h. slack_small (task_total s t) s.frame),
      sum_le_bound s.processors (λ p. slack (processor_total s p) s.frame) (λ p h. slack_small (processor_total s p) s.frame),
    )

-- where there is nothing to do, the frame is laid
pub nothing_to_do : (s : Load) → 1 ≤ s.processors → potential s ≡ 0 → s.frame ≡ 0
nothing_to_do s some none =
    let slack_none = point_le_sum s.processors (λ p. slack (processor_total s p) s.frame) 0 some in
    let full : processor_total s 0 ≡ s.frame = elim (cases_eq (processor_total s 0) s.frame) [ inl e ↦ e | inr ne ↦ absurd (omega (arith, slack_some (processor_total s 0) s.frame ne)) ] in
    let no_ticks : (t : ℕ) → t < s.tasks → s.ticks t 0 ≡ 0 = λ t h.
    let row_le = point_le_sum s.tasks (λ u. sum_below s.processors (λ p. some_left (s.ticks u p))) t h in
    let pair_le = point_le_sum s.processors (λ p. some_left (s.ticks t p)) 0 some in
    elim (cases_lt 0 (s.ticks t 0)) [ inl pos ↦ absurd (omega (arith, some_left_lt 0 (s.ticks t 0) refl pos)) | inr le ↦ omega arith ] in
    omega (arith, sum_zero s.tasks (λ t. s.ticks t 0) no_ticks)

module _ (left : Load) (row : Row) (d : ℕ) (cover : Cover (graph left) (marks left) row) (may : MayLast left row d) where
  task_paired : (t p : ℕ) → at row p ≡ Some t → task_total (laid left row d) t + d ≡ task_total left t
  task_paired t p e =
      let hp : p < left.processors = (cover.edges p t e).1 in
      let changed = sum_changed_at left.processors (λ q. (laid left row d).ticks t q) (λ q. left.ticks t q) p hp (λ q l ne. laid_off left row d t q (λ e'. ne (cover.apart q p t e' e))) in
      omega (arith, laid_at left row d t p e, may.pairs p t hp e)

  task_unpaired : (t : ℕ) → ((p : ℕ) → p < left.processors → at row p ≡ Some t → ⊥) → task_total (laid left row d) t ≡ task_total left t
  task_unpaired t none = sum_same left.processors _ _ (λ q l. laid_off left row d t q (none q l))

  processor_paired : (t p : ℕ) → at row p ≡ Some t → processor_total (laid left row d) p + d ≡ processor_total left p
  processor_paired t p e =
      let changed = sum_changed_at left.tasks (λ u. (laid left row d).ticks u p) (λ u. left.ticks u p) t (cover.edges p t e).0 (λ u l ne. laid_off left row d u p (λ e'. ne (same_entry (at row p) u t e' e))) in
      omega (arith, laid_at left row d t p e, may.pairs p t (cover.edges p t e).1 e)

  processor_unpaired : (p : ℕ) → at row p ≡ None → processor_total (laid left row d) p ≡ processor_total left p
  processor_unpaired p none = sum_same left.tasks _ _ (λ u l. laid_off left row d u p (none_or_some (at row p) u none))

  pub within_laid : Within left → Within (laid left row d)
  within_laid within =
      record {
        tasks = λ t h. elim (cases_paired left.processors row t) [
          | inl found ↦ omega (arith, task_paired t found.0 found.2, within.tasks t h)
          | inr none ↦ omega (arith, task_unpaired t none, may.tasks t h none)
        ];
        processors = λ p h. elim (none_or_named (at row p)) [
          | inl none ↦ omega (arith, processor_unpaired p none, may.processors p h none)
          | inr named ↦ omega (arith, processor_paired named.0 p named.1, within.processors p h)
        ];
      }

  pairs_le : (t p : ℕ) → some_left ((laid left row d).ticks t p) ≤ some_left (left.ticks t p)
  pairs_le t p = some_left_le ((laid left row d).ticks t p) (left.ticks t p) (laid_le left row d t p)

  loads_le : loads (laid left row d) ≤ loads left
  loads_le = sum_le left.tasks _ _ (λ t h. sum_le left.processors _ _ (λ p l. pairs_le t p))

  loads_lt : (p t : ℕ) → at row p ≡ Some t → 0 < d → left.ticks t p ≡ d → loads (laid left row d) < loads left
  loads_lt p t e pos tight = sum_lt left.tasks _ _ (λ t h. sum_le left.processors _ _ (λ p l. pairs_le t p)) t (cover.edges p t e).0
      (sum_lt left.processors _ _ (λ p l. pairs_le t p) p (cover.edges p t e).1 (some_left_lt ((laid left row d).ticks t p) (left.ticks t p) (omega (arith, laid_at left row d t p e)) (omega arith)))

  task_slack_le : (t : ℕ) → t < left.tasks → slack (task_total (laid left row d) t) (left.frame - d) ≤ slack (task_total left t) left.frame
  task_slack_le t h = slack_le _ _ _ _ (λ full.
      let (p, e) = cover.tasks t h (T_from_test (eqb (task_total left t) left.frame) (eq-eqb (task_total left t) left.frame full)) in
      omega (arith, task_paired t p e))

  processor_slack_le : (p : ℕ) → p < left.processors → slack (processor_total (laid left row d) p) (left.frame - d) ≤ slack (processor_total left p) left.frame
  processor_slack_le p h = slack_le _ _ _ _ (λ full.
      let (t, e) = cover.processors p h (T_from_test (eqb (processor_total left p) left.frame) (eq-eqb (processor_total left p) left.frame full)) in
      omega (arith, processor_paired t p e))

  task_slacks_le : sum_below left.tasks (λ t. slack (task_total (laid left row d) t) (left.frame - d)) ≤ sum_below left.tasks (λ t. slack (task_total left t) left.frame)
  task_slacks_le = sum_le left.tasks _ _ task_slack_le

  processor_slacks_le : sum_below left.processors (λ p. slack (processor_total (laid left row d) p) (left.frame - d)) ≤ sum_below left.processors (λ p. slack (processor_total left p) left.frame)
  processor_slacks_le = sum_le left.processors _ _ processor_slack_le

  task_slacks_lt : (t : ℕ) → t < left.tasks → ((p : ℕ) → p < left.processors → at row p ≡ Some t → ⊥) → 0 < d → d + task_total left t ≡ left.frame →
      sum_below left.tasks (λ t. slack (task_total (laid left row d) t) (left.frame - d)) < sum_below left.tasks (λ t. slack (task_total left t) left.frame)
  task_slacks_lt t h none pos tight = sum_lt left.tasks _ _ task_slack_le t h (slack_lt _ _ _ _ (λ e. omega arith) (omega (arith, task_unpaired t none)))

  processor_slacks_lt : (p : ℕ) → p < left.processors → at row p ≡ None → 0 < d → d + processor_total left p ≡ left.frame →
      sum_below left.processors (λ p. slack (processor_total (laid left row d) p) (left.frame - d)) < sum_below left.processors (λ p. slack (processor_total left p) left.frame)
  processor_slacks_lt p h none pos tight = sum_lt left.processors _ _ processor_slack_le p h (slack_lt _ _ _ _ (λ e. omega arith) (omega (arith, processor_unpaired p none)))

-- the row may last one tick
one_tick : (left : Load) (row : Row) → Cover (graph left) (marks left) row → Within left → MayLast left row 1
one_tick left row cover within =
    record {
      pairs = λ p t h e.
          let edge = test_from_T (ltb t left.tasks && (ltb p left.processors && ltb 0 (left.ticks t p))) (cover.edges p t e).2 in
          let inner = (and_parts (ltb t left.tasks) (ltb p left.processors && ltb 0 (left.ticks t p)) edge).1 in
          ltb-true 0 (left.ticks t p) (and_parts (ltb p left.processors) (ltb 0 (left.ticks t p)) inner).1;
      tasks = λ t h none. elim (cases_eq (task_total left t) left.frame) [
        | inl full ↦
            let (p, e) = cover.tasks t h (T_from_test (eqb (task_total left t) left.frame) (eq-eqb (task_total left t) left.frame full)) in
            absurd (none p (cover.edges p t e).1 e)
        | inr ne ↦ omega (arith, within.tasks t h)
      ];
      processors = λ p h none. elim (cases_eq (processor_total left p) left.frame) [
        | inl full ↦
            let (t, e) = cover.processors p h (T_from_test (eqb (processor_total left p) left.frame) (eq-eqb (processor_total left p) left.frame full)) in
            absurd (none_or_some (at row p) t none e)
        | inr ne ↦ omega (arith, within.processors p h)
      ];
    }

pub lasts : (left : Load) (row : Row) (d : ℕ) → Cover (graph left) (marks left) row → Within left → Longest left row d → 0 < d
lasts left row d cover within longest = longest.most 1 (one_tick left row cover within)

pub within_frame : (left : Load) (row : Row) (d : ℕ) → Cover (graph left) (marks left) row → Within left → Longest left row d → d ≤ left.frame
within_frame left row d cover within longest =
    elim (cases_eq left.processors 0) [
      | inl no_processor ↦ elim (cases_eq left.tasks 0) [
        | inl no_task ↦ absurd (omega (
          arith,
          longest.most (d + 1) (record { pairs = λ p t h e. absurd (omega arith); tasks = λ t h none. absurd (omega arith); processors = λ p h none. absurd (omega arith) }),
        ))
        | inr some ↦ omega (arith, longest.may.tasks 0 (omega arith) (λ p h e. omega arith))
      ]
      | inr some ↦ elim (none_or_named (at row 0)) [
        | inl none ↦ omega (arith, longest.may.processors 0 (omega arith) none)
        | inr named ↦
            let (t, e) = named in
            omega (arith, longest.may.pairs 0 t (omega arith) e, point_le_sum left.tasks (λ u. left.ticks u 0) t (cover.edges 0 t e).0, within.processors 0 (omega arith))
      ]
    ]

-- a time that leaves nothing less to do can be one longer
pub potential_falls : (left : Load) (row : Row) (d : ℕ) → Cover (graph left) (marks left) row → Within left → Longest left row d → potential (laid left row d) < potential left
potential_falls left row d cover within longest =
    let may : MayLast left row d = longest.may in
    let pos : 0 < d = lasts left row d cover within longest in
    let pairs = loads_le left row d cover may in
    let tasks = task_slacks_le left row d cover may in
    let processors = processor_slacks_le left row d cover may in
    elim (cases_lt (potential (laid left row d)) (potential left)) [
      | inl less ↦ less
      | inr no' ↦ absurd (omega (
        arith,
        longest.most (d + 1) (record {
          pairs = λ p t h e. elim (cases_eq (left.ticks t p) d) [ inl tight ↦ absurd (omega (arith, loads_lt left row d cover may p t e pos tight)) | inr ne ↦ omega (arith, may.pairs p t h e) ];
          tasks = λ t h none. elim (cases_eq (d + task_total left t) left.frame) [ inl tight ↦ absurd (omega (arith, task_slacks_lt left row d cover may t h none pos tight)) | inr ne ↦ omega (arith, may.tasks t h none) ];
          processors = λ p h none. elim (cases_eq (d + processor_total left p) left.frame) [ inl tight ↦ absurd (omega (arith, processor_slacks_lt left row d cover may p h none pos tight)) | inr ne ↦ omega (arith, may.processors p h none) ];
        }),
      ))
    ]
