-- The longest time that a row may last is the least of what its lines allow.
use Rattle.std.proofs.Common.{◌≡◌, ℕ, ◌<◌, ◌≤◌, true, cond, ltb, length, take, Some, None, Option, ◌⊎◌, sym, ap, ◌∙◌, inl, inr, arith}
use Rattle.std.proofs.lemmas.Bool.{cases_lt, lt-ltb, le-ltb, cond-true, cond-false, eqb-true}
use Rattle.std.proofs.lemmas.List.{get_or_past, get_or-take, length-take}
use Rattle.std.proofs.lemmas.List.Sums.{passes_at_first, fails_before_first, position_or_len_is}
use Rattle.std.specs.List.{position_or_len}
use native.Mathlib.Nat.{min-le_left, min-le_right}
use Rattle.counting.proofs.Sums.{point_le_sum}
use Rattle.graphs.specs.Graphs.{Row, at}
use Rattle.sheets.specs.Loads.{Load}
use Rattle.plans.specs.Plans.{Within, is_task}
use Rattle.plans.proofs.Rows.{none_or_some}
use Rattle.builder.specs.Building.{MayLast, Longest}
use Rattle.builder.specs.Lasting.{holder, lasting}
use Rattle.builder.specs.Reading.{across}
use Rattle.builder.proofs.Calls.{least, least_first, least_each, least_most}
use Rattle.builder.proofs.Steps.{none_or_named, is_task_true}

is_task_at : (t : ℕ) (o : Option ℕ) → is_task t o ≡ true → o ≡ Some t
is_task_at t None h = cc
is_task_at t (Some a) h = ap Some (eqb-true a t h)

module _ (row : Row) (t : ℕ) where
  -- the holder of a task has it, and where it has none, nobody does
  pub holder_cases : ((p : ℕ) × (holder row t ≡ Some p) × (at row p ≡ Some t)) ⊎ ((holder row t ≡ None) × ((p : ℕ) → at row p ≡ Some t → ⊥))
  holder_cases =
      let first = position_or_len (is_task t) row in
      elim (cases_lt first (length row)) [
        | inl found ↦ inl (first, cond-true (ltb first (length row)) (Some first) None (lt-ltb first (length row) found), is_task_at t (at row first) (passes_at_first (is_task t) row None found))
        | inr none ↦ inr (
          cond-false (ltb first (length row)) (Some first) None (le-ltb first (length row) none),
          λ p e. elim (cases_lt p (length row)) [
            | inl low ↦ let told = sym (is_task_true t (at row p) e) ∙ fails_before_first (is_task t) row p None (omega arith) in cc
            | inr high ↦ none_or_some (at row p) t (get_or_past row p None high) e
          ],
        )
      ]

  pub holder_at : (p : ℕ) → holder row t ≡ Some p → at row p ≡ Some t
  holder_at p e =
      elim holder_cases [
        | inl found ↦ let told = sym e ∙ found.1 in let same : p ≡ found.0 = cc in ap (at row) same ∙ found.2
        | inr none ↦ absurd (none_or_some (holder row t) p none.0 e)
      ]

-- where no entry past the front has the task, its holder is looked for in the front alone
pub holder_front : (row : Row) (t m : ℕ) → ((p : ℕ) → at row p ≡ Some t → p < m) → holder (take m row) t ≡ holder row t
holder_front row t m inside =
    let front = take m row in
    let long = length-take m row in
    let first = position_or_len (is_task t) front in
    elim (cases_lt first (length front)) [
      | inl found ↦
          let low : first < m = omega (arith, min-le_left m (length row)) in
          let near : first < length row = omega (arith, min-le_right m (length row)) in
          let same : position_or_len (is_task t) row ≡ first =
          position_or_len_is (is_task t) row first None (omega arith)
          (λ k h. ap (is_task t) (sym (get_or-take m row k None (omega arith))) ∙ fails_before_first (is_task t) front k None h)
          (λ h. ap (is_task t) (sym (get_or-take m row first None low)) ∙ passes_at_first (is_task t) front None found) in
          cond-true (ltb first (length front)) (Some first) None (lt-ltb first (length front) found) ∙
          sym (ap (λ k. cond {A = Option ℕ} (ltb k (length row)) (Some k) None) same ∙ cond-true (ltb first (length row)) (Some first) None (lt-ltb first (length row) near))
      | inr none ↦
          let idle : holder front t ≡ None = cond-false (ltb first (length front)) (Some first) None (le-ltb first (length front) none) in
          elim (holder_cases row t) [
            | inl other ↦ elim (holder_cases front t) [
              | inl found ↦ absurd (none_or_some (holder front t) found.0 idle found.1)
              | inr nobody ↦ absurd (nobody.1 other.0 (get_or-take m row other.0 None (inside other.0 other.2) ∙ other.2))
            ]
            | inr alone ↦ idle ∙ sym alone.0
          ]
    ]

module _ (left : Load) (row : Row) (pairs : (p t : ℕ) → at row p ≡ Some t → (t < left.tasks) × (p < left.processors)) (within : Within left) (some : 1 ≤ left.processors) where
  may_within : (e : ℕ) → MayLast left row e → e ≤ left.frame
  may_within e may =
      elim (none_or_named (at row 0)) [
        | inl none ↦ omega (arith, may.processors 0 some none)
        | inr named ↦ omega (arith, may.pairs 0 named.0 some named.1, point_le_sum left.tasks (λ u. left.ticks u 0) named.0 (pairs 0 named.0 named.1).0, within.processors 0 some)
      ]

  abbrev by_task : ℕ → ℕ
  by_task t = lasting left t (holder row t)

  abbrev by_processor : ℕ → ℕ
  by_processor p = lasting (across left) p (at row p)

  abbrev of_lines : ℕ
  of_lines = least by_processor (least by_task left.frame 0 left.tasks) 0 left.processors

  task_allows : (t : ℕ) → t < left.tasks → of_lines ≤ by_task t
  task_allows t h = omega (arith, least_first by_processor (least by_task left.frame 0 left.tasks) 0 left.processors, least_each by_task left.frame 0 left.tasks t (omega arith) (omega arith))

  processor_allows : (p : ℕ) → p < left.processors → of_lines ≤ by_processor p
  processor_allows p h = least_each by_processor (least by_task left.frame 0 left.tasks) 0 left.processors p (omega arith) (omega arith)

  most_by_task : (e : ℕ) → MayLast left row e → (t : ℕ) → t < left.tasks → e ≤ by_task t
  most_by_task e may t h =
      elim (holder_cases row t) [
        | inl found ↦ omega (arith, ap (lasting left t) found.1, may.pairs found.0 t (pairs found.0 t found.2).1 found.2)
        | inr none ↦ omega (arith, ap (lasting left t) none.0, may.tasks t h (λ p l. none.1 p))
      ]

  most_by_processor : (e : ℕ) → MayLast left row e → (p : ℕ) → p < left.processors → e ≤ by_processor p
  most_by_processor e may p h =
      elim (none_or_named (at row p)) [
        | inl none ↦ omega (arith, ap (lasting (across left) p) none, may.processors p h none)
        | inr named ↦ omega (arith, ap (lasting (across left) p) named.1, may.pairs p named.0 h named.1)
      ]

  pub longest_of_lines : (d : ℕ) → d ≡ least by_processor (least by_task left.frame 0 left.tasks) 0 left.processors → Longest left row d
  longest_of_lines d is =
      record {
        may = record {
          pairs = λ p t h e. omega (arith, processor_allows p h, ap (lasting (across left) p) e);
          tasks = λ t h none. elim (holder_cases row t) [
            | inl found ↦ absurd (none found.0 (pairs found.0 t found.2).1 found.2)
            | inr idle ↦ omega (arith, task_allows t h, ap (lasting left t) idle.0, within.tasks t h)
          ];
          processors = λ p h none. omega (arith, processor_allows p h, ap (lasting (across left) p) none, within.processors p h);
        };
        most = λ e may. omega (
          arith,
          least_most by_processor e (least by_task left.frame 0 left.tasks) 0 left.processors
              (least_most by_task e left.frame 0 left.tasks (may_within e may) (λ t _ h. most_by_task e may t (omega arith)))
              (λ p _ h. most_by_processor e may p (omega arith)),
        );
      }
