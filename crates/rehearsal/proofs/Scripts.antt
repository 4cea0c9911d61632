-- A script while it is played.
use Rattle.std.proofs.Common.{◌≡◌, ℕ, zero, suc, ◌+◌, ◌<◌, ◌≤◌, ◌≢◌, List, length, take, set, Some, sym, refl, ap, ◌∙◌, add-one, arith}
use lib.Seq.{map-set_same}
use Rattle.std.proofs.lemmas.List.{get_or-set_same, get_or-set_other, get_or-map, length-map}
use Rattle.std.proofs.lemmas.List.Sums.{fold_more}
use Rattle.builder.specs.declared.slots.Slot.{Slot}
use Rattle.pairings.specs.Rules.{Rule}
use Rattle.sheets.specs.Calls.{blank}
use Rattle.sheets.specs.Loads.{Load}
use Rattle.rehearsal.specs.Calls.{after, accepted, CallAnswer, AnsweredCall}
use Rattle.rehearsal.specs.Playing.{calls_of, entry_at, Answered, Played}
use Rattle.rehearsal.specs.declared.calls.Entry.{Entry}
use Rattle.rehearsal.specs.declared.calls.SheetCall.{SheetCall}
use Rattle.rehearsal.specs.declared.calls.SheetCall.TheVariants.{Build}

-- the first i calls are played
pub record SoFar (admits : Rule) (script script' : List Entry) (room room' : List Slot) (s : Load) (i : ℕ) : Type 0 where
  pub calls : calls_of script' ≡ calls_of script
  pub load : s ≡ accepted (take i (calls_of script))
  pub played : Played admits script' i room room'

-- the entry with its answer beside it
abbrev answered : Entry → CallAnswer → Entry
answered e a = record { call = e.call; answer = Some a }

-- the script with the answer of call i beside it
abbrev pub with_answer : List Entry → ℕ → CallAnswer → List Entry
with_answer script i a = set script i (answered (entry_at script i) a)

same_calls : (script : List Entry) (i : ℕ) (a : CallAnswer) → calls_of (with_answer script i a) ≡ calls_of script
same_calls script i a = map-set_same (λ (e : Entry). e.call) script i (answered (entry_at script i) a) _ refl

-- an answer depends on the calls and on its own entry alone
moved : (admits : Rule) (script script' : List Entry) (k : ℕ) (room room' : List Slot) →
    calls_of script' ≡ calls_of script → entry_at script' k ≡ entry_at script k → Answered admits script k room room' → Answered admits script' k room room'
moved admits script script' k room room' calls entry h = record {
  answer = h.answer;
  beside = rw entry h.beside;
  holds = rw (entry, calls) h.holds;
}

played_still : (admits : Rule) (script : List Entry) (i : ℕ) (a : CallAnswer) (k : ℕ) (room room' : List Slot) → k ≤ i →
    Played admits script k room room' → Played admits (with_answer script i a) k room room'
played_still admits script i a zero room room' le p = p
played_still admits script i a (suc k) room room' le p =
    let ne : k ≢ i = omega arith in (
      p.0,
      played_still admits script i a k room p.0 (omega arith) p.1,
      moved admits script (with_answer script i a) k p.0 room' (same_calls script i a) (get_or-set_other script i k _ _ ne) p.2,
    )

-- one call more
pub one_more : {admits : Rule} {script script' : List Entry} {room room' : List Slot} {s : Load} {i : ℕ} → SoFar admits script script' room room' s i →
    i < length script' → (a : CallAnswer) (room'' : List Slot) (s'' : Load) → s'' ≡ after s (entry_at script' i).call →
    AnsweredCall admits s (entry_at script' i).call room' room'' a → SoFar admits script (with_answer script' i a) room room'' s'' (i + 1)
one_more {admits} {script} {script'} {room} {room'} {s} {i} so lt a room'' s'' moves holds =
    let long : i < length (calls_of script') = rw length-map lt in
    let here : entry_at (with_answer script' i a) i ≡ answered (entry_at script' i) a = get_or-set_same script' i _ _ lt in
    let load = so.load ∙ ap (λ (cs : List SheetCall). accepted (take i cs)) (sym so.calls) in
    record {
      calls = same_calls script' i a ∙ so.calls;
      load =
          let call = get_or-map (λ (e : Entry). e.call) script' i _ Build lt in
          let more = fold_more after blank (calls_of script') i Build long in
          rw (moves, load, ← so.calls, more, call) refl;
      played = rw add-one (
        room',
        played_still admits script' i a i room room' (omega arith) so.played,
        record {
          answer = a;
          beside = rw here refl;
          holds = rw (here, same_calls script' i a, ← load) holds;
        },
      );
    }
