-- What is built is sound, so that a template adopts it.
use Rattle.std.proofs.Common.{◌≡◌, ℕ, zero, suc, ◌*◌, ◌<◌, ◌≤◌, Bool, true, false, cond, ltb, List, [], ◌∷◌, length, Some, None, sym, arith}
use Rattle.counting.specs.Sums.{sum_below}
use Rattle.builder.specs.Building.{Built, Next, laid}
use Rattle.builder.proofs.Steps.{lasts, within_frame, within_laid}
use Rattle.builder.specs.declared.slots.Slot.{Slot}
use Rattle.graphs.specs.Graphs.{Row, at}
use Rattle.pairings.specs.Rules.{Rule}
use Rattle.plans.specs.Plans.{Within}
use Rattle.sheets.specs.Loads.{Load, places_needed}
use Rattle.templates.specs.Layouts.{Sound, slot_at, total, laid as layout}

module _ (admits : Rule) where
  -- what is left after a built slot, and how long the slot is
  next_within : (left : Load) (before : Row) (slot : Slot) → Within left → Next admits left before slot → Within (laid left slot.row slot.ticks)
  next_within left before slot within next = within_laid left slot.row slot.ticks next.cover next.longest.may within

  pub built_total : (left : Load) (before : Row) (slots : List Slot) → Within left → Built admits left before slots → total slots ≡ left.frame
  built_total left before [] within built = sym built
  built_total left before (slot ∷ slots) within built =
      let next = built.0 in
      let rest = built_total (laid left slot.row slot.ticks) slot.row slots (next_within left before slot within built.0) built.1 in
      let short = within_frame left slot.row slot.ticks next.cover within next.longest in
      omega arith

  pub built_some : (left : Load) (before : Row) (slots : List Slot) → Within left → Built admits left before slots → (i : ℕ) → i < length slots → 1 ≤ (slot_at slots i).ticks
  built_some left before [] within built i h = absurd (omega arith)
  built_some left before (slot ∷ slots) within built zero h = lasts left slot.row slot.ticks built.0.cover within built.0.longest
  built_some left before (slot ∷ slots) within built (suc i) h =
      built_some (laid left slot.row slot.ticks) slot.row slots (next_within left before slot within built.0) built.1 i (omega arith)

  pub built_most : (left : Load) (before : Row) (slots : List Slot) → Within left → Built admits left before slots → (i : ℕ) → i < length slots → (slot_at slots i).ticks ≤ left.frame
  built_most left before [] within built i h = absurd (omega arith)
  built_most left before (slot ∷ slots) within built zero h = within_frame left slot.row slot.ticks built.0.cover within built.0.longest
  built_most left before (slot ∷ slots) within built (suc i) h =
      let rest = built_most (laid left slot.row slot.ticks) slot.row slots (next_within left before slot within built.0) built.1 i (omega arith) in
      omega arith

  nobody : {X : Type 0} (t : ℕ) → None ≡ Some t → X
  nobody t e = let z : ◌≡◌ {A = ℕ} 0 1 = cc in absurd (omega arith)

  pub built_named : (left : Load) (before : Row) (slots : List Slot) → Built admits left before slots → (i p t : ℕ) → at (slot_at slots i).row p ≡ Some t → (t < left.tasks) × (p < left.processors)
  built_named left before [] built i p t e = nobody t e
  built_named left before (slot ∷ slots) built zero p t e = let edge = built.0.cover.edges p t e in (edge.0, edge.1)
  built_named left before (slot ∷ slots) built (suc i) p t e = built_named (laid left slot.row slot.ticks) slot.row slots built.1 i p t e

  pub built_apart : (left : Load) (before : Row) (slots : List Slot) → Built admits left before slots → (i p q t : ℕ) → at (slot_at slots i).row p ≡ Some t → at (slot_at slots i).row q ≡ Some t → p ≡ q
  built_apart left before [] built i p q t e f = nobody t e
  built_apart left before (slot ∷ slots) built zero p q t e f = built.0.cover.apart p q t e f
  built_apart left before (slot ∷ slots) built (suc i) p q t e f = built_apart (laid left slot.row slot.ticks) slot.row slots built.1 i p q t e f

-- sums of terms that are at most x
sum_most : (k x : ℕ) (f : ℕ → ℕ) → ((i : ℕ) → f i ≤ x) → sum_below k f ≤ k * x
sum_most zero x f small = omega arith
sum_most (suc k) x f small = let rest = sum_most k x f small in let here = small k in omega (arith, rest)

one_at_most : (b : Bool) → cond {A = ℕ} b 1 0 ≤ 1
one_at_most true = omega arith
one_at_most false = omega arith

pub places_most : (s : Load) → s.tasks ≤ 64 → s.processors ≤ 16 → places_needed s ≤ 1104
places_most s few fewer =
    let load : ℕ → ℕ → ℕ = λ t p. cond (ltb 0 (s.ticks t p)) 1 0 in
    let one : (t p : ℕ) → cond {A = ℕ} (ltb 0 (s.ticks t p)) 1 0 ≤ 1 = λ t p. one_at_most (ltb 0 (s.ticks t p)) in
    let lines : (t : ℕ) → sum_below s.processors (λ p. cond (ltb 0 (s.ticks t p)) 1 0) ≤ 16 =
    λ t. let line = sum_most s.processors 1 (load t) (one t) in omega arith in
    let all = sum_most s.tasks 16 (λ t. sum_below s.processors (load t)) lines in
    omega arith

pub built_sound : (admits : Rule) (s : Load) (before : Row) (slots : List Slot) →
    (1 ≤ s.tasks) × (s.tasks ≤ 64) → (1 ≤ s.processors) × (s.processors ≤ 16) → (1 ≤ s.frame) × (s.frame ≤ 1000000000) →
    Within s → length slots ≤ places_needed s → Built admits s before slots → Sound (layout s.tasks s.processors s.frame slots)
built_sound admits s before slots tasked manned framed within few built =
    let most = places_most s tasked.1 manned.1 in
    record {
      tasks_some = tasked.0;
      tasks_most = tasked.1;
      processors_some = manned.0;
      processors_most = manned.1;
      frame_some = framed.0;
      frame_most = framed.1;
      slots_most = omega arith;
      slot_some = built_some admits s before slots within built;
      slot_most = built_most admits s before slots within built;
      named = built_named admits s before slots built;
      apart = built_apart admits s before slots built;
      whole = built_total admits s before slots within built;
    }
