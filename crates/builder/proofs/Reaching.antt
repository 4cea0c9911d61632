-- Slots laid so far, and what they leave.
use Rattle.std.proofs.Common.{◌≡◌, ℕ, zero, suc, ◌+◌, ◌-◌, ◌<◌, ◌≤◌, ltb, List, [], ◌∷◌, ◌++◌, length, sym, refl, ap, ◌∙◌, inl, inr, arith}
use Rattle.std.proofs.lemmas.Bool.{cases_lt, lt-ltb, le-ltb, cond-true, cond-false}
use Rattle.counting.specs.Sums.{sum_below}
use Rattle.graphs.specs.Graphs.{Row, at}
use Rattle.graphs.specs.Covers.{Cover}
use Rattle.sheets.specs.Loads.{Load}
use Rattle.plans.specs.Plans.{is_task, UnitPlan, Within}
use Rattle.plans.specs.Remaining.{graph, marks}
use Rattle.counting.proofs.Sums.{sum_same, sum_zero, point_le_sum, sum_split}
use Rattle.plans.proofs.Rows.{hit, hit_of}
use Rattle.builder.specs.declared.slots.Slot.{Slot}
use Rattle.builder.specs.Building.{Longest, laid, Next, Built, read}
use Rattle.pairings.specs.Rules.{Rule}
use Rattle.builder.proofs.Steps.{potential, potential_falls, within_laid, within_frame, cases_entry, laid_at, laid_off, is_task_false}

-- from a load and a row, slots that leave a load and end in a row
pub data Reaches (admits : Rule) : Load → Row → List Slot → Load → Row → Type 0 where
  here : {s : Load} {before : Row} → Reaches admits s before [] s before
  there : {s left : Load} {before last : Row} {slot : Slot} {slots : List Slot} → Next admits s before slot → Reaches admits (laid s slot.row slot.ticks) slot.row slots left last → Reaches admits s before (slot ∷ slots) left last

pub one_more : {admits : Rule} {s left : Load} {before last : Row} {slots : List Slot} → Reaches admits s before slots left last → (slot : Slot) → Next admits left last slot → Reaches admits s before (slots ++ slot ∷ []) (laid left slot.row slot.ticks) slot.row
one_more here slot next = there next here
one_more (there first rest) slot next = there first (one_more rest slot next)

pub built : {admits : Rule} {s left : Load} {before last : Row} {slots : List Slot} → Reaches admits s before slots left last → left.frame ≡ 0 → Built admits s before slots
built here done = done
built (there first rest) done = (first, built rest done)

pub count_left : {admits : Rule} {s left : Load} {before last : Row} {slots : List Slot} → Reaches admits s before slots left last → Within s → length slots + potential left ≤ potential s
count_left here within = omega arith
count_left {s = s} (there {slot = slot} first rest) within =
    omega (arith, potential_falls s slot.row slot.ticks first.cover within first.longest, count_left rest (within_laid s slot.row slot.ticks first.cover first.longest.may within))

sum_ones : (k : ℕ) (f : ℕ → ℕ) → ((i : ℕ) → i < k → f i ≡ 1) → sum_below k f ≡ k
sum_ones zero f ones = refl
sum_ones (suc k) f ones = let rest : sum_below k f ≡ k = sum_ones k f (λ i h. ones i (omega arith)) in omega (arith, ones k (omega arith))

pub read_first : (slot : Slot) (slots : List Slot) (k p : ℕ) → k < slot.ticks → read (slot ∷ slots) k p ≡ at slot.row p
read_first slot slots k p h = cond-true (ltb k slot.ticks) (at slot.row p) (read slots (k - slot.ticks) p) (lt-ltb k slot.ticks h)

pub read_rest : (slot : Slot) (slots : List Slot) (k p : ℕ) → slot.ticks ≤ k → read (slot ∷ slots) k p ≡ read slots (k - slot.ticks) p
read_rest slot slots k p h = cond-false (ltb k slot.ticks) (at slot.row p) (read slots (k - slot.ticks) p) (le-ltb k slot.ticks h)

-- a plan for what a slot leaves, after the slot
after_slot : (s : Load) (slot : Slot) (slots : List Slot) → Cover (graph s) (marks s) slot.row → Within s → Longest s slot.row slot.ticks → UnitPlan (laid s slot.row slot.ticks) (read slots) → UnitPlan s (read (slot ∷ slots))
after_slot s slot slots cover within longest rest =
    let fits : slot.ticks ≤ s.frame = within_frame s slot.row slot.ticks cover within longest in
    record {
      names = λ k p t hk hp e. elim (cases_lt k slot.ticks) [
        | inl early ↦ (cover.edges p t (sym (read_first slot slots k p early) ∙ e)).0
        | inr late ↦ rest.names (k - slot.ticks) p t (omega arith) hp (sym (read_rest slot slots k p late) ∙ e)
      ];
      apart = λ k p q t hk hp hq ep eq. elim (cases_lt k slot.ticks) [
        | inl early ↦ cover.apart p q t (sym (read_first slot slots k p early) ∙ ep) (sym (read_first slot slots k q early) ∙ eq)
        | inr late ↦ rest.apart (k - slot.ticks) p q t (omega arith) hp hq (sym (read_rest slot slots k p late) ∙ ep) (sym (read_rest slot slots k q late) ∙ eq)
      ];
      exact = λ t p ht hp.
          let named : ℕ → ℕ = λ k. hit t (read (slot ∷ slots) k p) in
          let whole : sum_below (slot.ticks + (s.frame - slot.ticks)) named ≡ sum_below s.frame named = ap (λ k. sum_below k named) (omega arith) in
          let parts = sum_split slot.ticks (s.frame - slot.ticks) named in
          let later : sum_below (s.frame - slot.ticks) (λ i. named (slot.ticks + i)) ≡ sum_below (s.frame - slot.ticks) (λ k. hit t (read slots k p)) =
          sum_same (s.frame - slot.ticks) (λ i. named (slot.ticks + i)) (λ k. hit t (read slots k p))
          (λ i h. ap (hit t) (read_rest slot slots (slot.ticks + i) p (omega arith) ∙ ap (λ k. read slots k p) (omega arith))) in
          elim (cases_entry (at slot.row p) t) [
            | inl e ↦ omega (
              arith,
              rest.exact t p ht hp,
              laid_at s slot.row slot.ticks t p e,
              longest.may.pairs p t hp e,
              sum_ones slot.ticks named (λ k h. hit_of t (read (slot ∷ slots) k p) (read_first slot slots k p h ∙ e)),
            )
            | inr ne ↦ omega (
              arith,
              rest.exact t p ht hp,
              laid_off s slot.row slot.ticks t p ne,
              sum_zero slot.ticks named (λ k h. cond-false (is_task t (read (slot ∷ slots) k p)) 1 0 (is_task_false t (read (slot ∷ slots) k p) (λ e. ne (sym (read_first slot slots k p h) ∙ e)))),
            )
          ];
    }

pub planned : (admits : Rule) (s : Load) (before : Row) (slots : List Slot) → Within s → Built admits s before slots → UnitPlan s (read slots)
planned admits s before [] within done =
    record {
      names = λ k p t hk hp e. absurd (omega arith);
      apart = λ k p q t hk hp hq ep eq. absurd (omega arith);
      exact = λ t p ht hp. omega (arith, sum_zero s.frame (λ k. 0) (λ k h. refl), point_le_sum s.processors (λ q. s.ticks t q) p hp, within.tasks t ht);
    }
planned admits s before (slot ∷ slots) within (next, rest) =
    after_slot s slot slots next.cover within next.longest (planned admits (laid s slot.row slot.ticks) slot.row slots (within_laid s slot.row slot.ticks next.cover next.longest.may within) rest)
