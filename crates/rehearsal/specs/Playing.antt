-- Scripts: calls in turn, each with its answer beside it.
use Rattle.std.specs.Prelude.{◌≡◌, ℕ, zero, suc, List, map, length, take, Some, None, Result, slice_index_or}
use Rattle.builder.specs.declared.refusals.BuildRefusal.{BuildRefusal}
use Rattle.builder.specs.declared.slots.Slot.{Slot}
use Rattle.pairings.specs.Rules.{Rule}
use Rattle.rehearsal.specs.declared.calls.Entry.{Entry}
use Rattle.rehearsal.specs.declared.calls.SheetCall.{SheetCall}
use Rattle.rehearsal.specs.declared.calls.SheetCall.TheVariants.{Open}
use Rattle.rehearsal.specs.Calls.{accepted, Builds, CallAnswer, AnsweredCall}

abbrev pub calls_of : List Entry → List SheetCall
calls_of script = map (λ e. e.call) script

-- the call at a place, and its answer; what stands past the end is never asked for
abbrev pub entry_at : List Entry → ℕ → Entry
entry_at script k = slice_index_or script k (record { call = Open 0 0 0; answer = None })

-- the answer beside call k is that call's, on the load that the calls before it left
pub record Answered (admits : Rule) (script : List Entry) (k : ℕ) (room room' : List Slot) : Type 0 where
  pub answer : CallAnswer
  pub beside : (entry_at script k).answer ≡ Some answer
  pub holds : AnsweredCall admits (accepted (take k (calls_of script))) (entry_at script k).call room room' answer

-- the first k calls are answered in turn, each in the room that the one before left
abbrev pub Played : Rule → List Entry → ℕ → List Slot → List Slot → Type 0
Played admits script zero room room' = room' ≡ room
Played admits script (suc k) room room' = (between : List Slot) × Played admits script k room between × Answered admits script k between room'

-- a script played on the blank sheet, and the build after it: what the build answers holds of the load last accepted
pub record Rehearsed (admits : Rule) (script script' : List Entry) (room room' : List Slot) (r : Result ℕ BuildRefusal) : Type 0 where
  pub calls : calls_of script' ≡ calls_of script
  pub between : List Slot
  pub long : length between ≡ length room
  pub played : Played admits script' (length script) room between
  pub next : Builds admits (accepted (calls_of script)) between room' r
