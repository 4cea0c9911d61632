-- What a template says, and which templates may exist.
use Rattle.std.specs.Prelude.{◌≡◌, ℕ, ◌+◌, ◌<◌, ◌≤◌, List, [], ◌∷◌, length, Some, slice_index_or}
use Rattle.builder.specs.declared.slots.Slot.{Slot}
use Rattle.graphs.specs.Covers.{all_idle}
use Rattle.graphs.specs.Graphs.{at}

pub record Layout : Type 0 where
  pub tasks : ℕ
  pub processors : ℕ
  pub frame : ℕ
  pub slots : List Slot

abbrev pub laid : ℕ → ℕ → ℕ → List Slot → Layout
laid n m l slots = record { tasks = n; processors = m; frame = l; slots = slots }

abbrev pub idle_slot : ℕ → Slot
idle_slot x = record { ticks = x; row = all_idle }

-- one task, one processor, a frame of one idle tick
abbrev pub blank : Layout
blank = laid 1 1 1 (idle_slot 1 ∷ [])

-- what stands past the last slot: no ticks, and no task on any processor
abbrev pub no_slot : Slot
no_slot = record { ticks = 0; row = [] }

abbrev pub slot_at : List Slot → ℕ → Slot
slot_at slots i = slice_index_or slots i no_slot

-- the ticks of all slots together
abbrev pub total : List Slot → ℕ
total [] = 0
total (s ∷ slots) = s.ticks + total slots

pub record Sound (l : Layout) : Type 0 where
  pub tasks_some : 1 ≤ l.tasks
  pub tasks_most : l.tasks ≤ 64
  pub processors_some : 1 ≤ l.processors
  pub processors_most : l.processors ≤ 16
  pub frame_some : 1 ≤ l.frame
  pub frame_most : l.frame ≤ 1000000000
  pub slots_most : length l.slots ≤ 1104
  pub slot_some : (i : ℕ) → i < length l.slots → 1 ≤ (slot_at l.slots i).ticks
  pub slot_most : (i : ℕ) → i < length l.slots → (slot_at l.slots i).ticks ≤ l.frame
  pub named : (i p t : ℕ) → at (slot_at l.slots i).row p ≡ Some t → (t < l.tasks) × (p < l.processors)
  pub apart : (i p q t : ℕ) → at (slot_at l.slots i).row p ≡ Some t → at (slot_at l.slots i).row q ≡ Some t → p ≡ q
  pub whole : total l.slots ≡ l.frame
