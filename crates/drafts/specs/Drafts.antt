-- What becomes of a sheet file: the template of its load, or why there is none.
use Rattle.std.specs.Prelude.{◌≡◌, ℕ, ◌<◌, ◌≤◌, List, length, take, drop, Ok, Err, Result}
use Rattle.builder.specs.Building.{Built, read}
use Rattle.builder.specs.Lines.{Over}
use Rattle.builder.specs.declared.refusals.BuildRefusal.TheVariants.{NoPlan, NoRoom}
use Rattle.builder.specs.declared.slots.Slot.{Slot}
use Rattle.graphs.specs.Covers.{all_idle}
use Rattle.listings.specs.Refusing.{Answered, layout_text, refusal_text}
use Rattle.listings.specs.declared.refusals.Refusal.{Refusal}
use Rattle.listings.specs.declared.refusals.Refusal.TheVariants.{Sheet, File, Build, Template}
use Rattle.listings.specs.declared.refusals.ListRefusal.{ListRefusal}
use Rattle.planfiles.specs.Reading.{read_sheet}
use Rattle.plans.specs.Plans.{UnitPlan, Plannable}
use Rattle.preferences.specs.Numbers.{first_by_number}
use Rattle.sheets.specs.Loads.{Load, places_needed}
use Rattle.templates.specs.Layouts.{Layout}

-- the template of a load: its numbers, and slots that the first rule by number builds and that plan the load tick by tick
pub record TemplateOf (s : Load) (l : Layout) : Type 0 where
  pub tasks : l.tasks ≡ s.tasks
  pub processors : l.processors ≡ s.processors
  pub frame : l.frame ≡ s.frame
  pub few : length l.slots ≤ places_needed s
  pub built : Built first_by_number s all_idle l.slots
  pub plan : UnitPlan s (read l.slots)

-- the built slots stand in the first places of the room, and the later ones are as they were
pub record Roomed (slots room room' : List Slot) : Type 0 where
  pub front : take (length slots) room' ≡ slots
  pub rest : drop (length slots) room' ≡ drop (length slots) room

-- why a file gets no template: it is faulty, no unit plan exists, or the room is too small
abbrev pub Refused : List ℕ → List Slot → Refusal → Type 0
Refused file room (File fault) = read_sheet file ≡ Err fault
Refused file room (Build (NoPlan line)) = (s : Load) × (read_sheet file ≡ Ok s) × Over s line × (Plannable s → ⊥)
Refused file room (Build NoRoom) = (s : Load) × (read_sheet file ≡ Ok s) × Plannable s × (length room < places_needed s)
Refused file room (Sheet refusal) = ⊥
Refused file room (Template refusal) = ⊥

abbrev pub Drafted : List ℕ → List Slot → List Slot → Layout → Layout → Result (Unit {0}) Refusal → Type 0
Drafted file room room' old new (Ok _) = (s : Load) × (read_sheet file ≡ Ok s) × TemplateOf s new × Roomed new.slots room room'
Drafted file room room' old new (Err refusal) = Refused file room refusal × (room' ≡ room) × (new ≡ old)

-- the text of the template drafted, or of the refusal
abbrev pub draft_text : Layout → Result (Unit {0}) Refusal → List ℕ
draft_text new (Ok _) = layout_text new
draft_text new (Err refusal) = refusal_text refusal

-- a draft and its listing
pub record DraftListed (file : List ℕ) (room room' : List Slot) (old new : Layout) (output output' : List ℕ) (r : Result ℕ ListRefusal) : Type 0 where
  pub answer : Result (Unit {0}) Refusal
  pub drafted : Drafted file room room' old new answer
  pub listed : Answered (draft_text new answer) output output' r
