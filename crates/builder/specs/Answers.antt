-- What a build answers.
use Rattle.std.specs.Prelude.{◌≡◌, ℕ, ◌<◌, ◌≤◌, ◌↔◌, List, length, take, drop, Ok, Err, Result}
use Rattle.graphs.specs.Covers.{all_idle}
use Rattle.sheets.specs.Loads.{Load, places_needed}
use Rattle.plans.specs.Plans.{UnitPlan, Plannable}
use Rattle.builder.specs.declared.slots.Slot.{Slot}
use Rattle.builder.specs.declared.lines.Line.{Line}
use Rattle.builder.specs.declared.refusals.BuildRefusal.{BuildRefusal}
use Rattle.builder.specs.declared.refusals.BuildRefusal.TheVariants.{NoPlan, NoRoom}
use Rattle.builder.specs.Building.{Built, read}
use Rattle.pairings.specs.Rules.{Rule}
use Rattle.builder.specs.Lines.{Over}

-- the first slots of the room are built by the rule, and are a unit plan; the others are as they were
pub record LaidOut (admits : Rule) (s : Load) (room room' : List Slot) (count : ℕ) : Type 0 where
  pub few : count ≤ places_needed s
  pub built : Built admits s all_idle (take count room')
  pub plan : UnitPlan s (read (take count room'))
  pub rest : drop count room' ≡ drop count room

-- slots, or the line that no plan allows, or too small a room; a refusal leaves the room as it was
abbrev pub BuildAnswer : Rule → Load → List Slot → List Slot → Result ℕ BuildRefusal → Type 0
BuildAnswer admits s room room' (Ok count) = (places_needed s ≤ length room) × LaidOut admits s room room' count
BuildAnswer admits s room room' (Err (NoPlan line)) = Over s line × (Plannable s → ⊥) × (room' ≡ room)
BuildAnswer admits s room room' (Err NoRoom) = Plannable s × (length room < places_needed s) × (room' ≡ room)

-- when each answer is given
pub record Exact (s : Load) (room : List Slot) (answer : Result ℕ BuildRefusal) : Type 0 where
  pub refuses : ((line : Line) × (answer ≡ Err (NoPlan line))) ↔ (Plannable s → ⊥)
  pub lacks : (answer ≡ Err NoRoom) ↔ (Plannable s × (length room < places_needed s))
  pub serves : ((count : ℕ) × (answer ≡ Ok count)) ↔ (Plannable s × (places_needed s ≤ length room))
