-- The turns of the loop that lays slots, and what a build answers.
use Rattle.std.proofs.Common.{◌≡◌, ℕ, ◌+◌, ◌<◌, ◌≤◌, List, length, take, drop, set, None, Ok, Err, Result, MatchResult, sym, refl, ap, ◌∙◌, subst, arith, length-set}
use Rattle.std.specs.Result.{IsErrAnd}
use Rattle.std.proofs.lemmas.List.{length-take-le, take_more_set, drop-drop, drop-set-lt}
use Rattle.graphs.specs.Graphs.{Row}
use Rattle.graphs.specs.Covers.{Marking, Cover, all_idle}
use Rattle.sheets.specs.Loads.{Load, places_needed}
use Rattle.plans.specs.Plans.{Plannable, Within}
use Rattle.plans.specs.Remaining.{graph, marks}
use Rattle.plans.proofs.Covers.{loads_covered}
use Rattle.plans.proofs.Plannable.{within_if_plannable}
use Rattle.builder.specs.declared.slots.Slot.{Slot}
use Rattle.builder.specs.declared.lines.Line.{Line}
use Rattle.builder.specs.declared.lines.Line.TheVariants.{Task, Processor}
use Rattle.builder.specs.declared.left.Left.{Left}
use Rattle.builder.specs.Lefts.{left_of}
use Rattle.builder.specs.Building.{laid, Next, read}
use Rattle.pairings.specs.Rules.{Rule, Chooses}
use Rattle.builder.specs.Lines.{Over}
use Rattle.builder.specs.Answers.{LaidOut, BuildAnswer, Exact}
use Rattle.builder.specs.declared.refusals.BuildRefusal.{BuildRefusal}
use Rattle.builder.specs.declared.refusals.BuildRefusal.TheVariants.{NoPlan, NoRoom}
use Rattle.builder.proofs.Steps.{potential_small, nothing_to_do}
use Rattle.builder.proofs.Reaching.{Reaches, here, one_more, built, count_left, planned}

-- a rule asked about a load within its frame chooses
pub chooses_some : (admits : Rule) (s : Load) (m : Marking) (before : Row) → s.processors ≤ 16 → Within s → 0 < s.frame → m ≡ marks s → Chooses admits (graph s) m before None → ⊥
chooses_some admits s m before few within more same none =
    let (other, cover) = loads_covered s few within more in
    none other (subst (λ (k : Marking). Cover (graph s) k other) (sym same) cover)

-- slots laid so far in a room, and what they leave
pub record SoFar (admits : Rule) (s : Load) (room room' : List Slot) (left : Load) (last : Row) (count : ℕ) : Type 0 where
  pub reaches : Reaches admits s all_idle (take count room') left last
  pub near : count ≤ length room'
  pub rest : drop count room' ≡ drop count room

pub begun : (admits : Rule) (s : Load) (room : List Slot) → SoFar admits s room room s all_idle 0
begun admits s room = record { reaches = here; near = omega arith; rest = refl }

module _ {admits : Rule} {s : Load} {room room' : List Slot} {left : Load} {last : Row} {count : ℕ} (within : Within s) (far : SoFar admits s room room' left last count) where
  pub one_turn : count < length room' → (slot : Slot) → Next admits left last slot → (left' : Load) → left' ≡ laid left slot.row slot.ticks → SoFar admits s room (set room' count slot) left' slot.row (count + 1)
  one_turn place slot next left' same =
      record {
        reaches =
            subst (λ (l : Load). Reaches admits s all_idle (take (count + 1) (set room' count slot)) l slot.row) (sym same)
            (subst (λ (slots : List Slot). Reaches admits s all_idle slots (laid left slot.row slot.ticks) slot.row) (sym (take_more_set room' count slot place)) (one_more far.reaches slot next));
        near = omega (arith, length-set room' count slot);
        rest = drop-set-lt (count + 1) room' count slot (omega arith) ∙ sym (drop-drop 1 count room') ∙ ap (drop 1) far.rest ∙ drop-drop 1 count room;
      }

  pub ended : left.frame ≡ 0 → LaidOut admits s room room' count
  ended done =
      let all = built far.reaches done in
      record {
        few = omega (arith, count_left far.reaches within, potential_small s, length-take-le count room' far.near);
        built = all;
        plan = planned admits s all_idle (take count room') within all;
        rest = far.rest;
      }

  -- a room that is laid full was enough
  pub full_room : places_needed s ≤ count → 1 ≤ left.processors → LaidOut admits s room room' count
  full_room enough some = ended (nothing_to_do left some (omega (arith, count_left far.reaches within, potential_small s, length-take-le count room' far.near)))

-- what a sheet's load answers, read through a change of the error
pub taken : (s : Load) (of : Result Left Line) (mapped : Result Left BuildRefusal) (P : Line → BuildRefusal → Type 0) →
    MatchResult of (λ left. left_of left ≡ s) (λ line. Over s line) → MatchResult of (λ left. mapped ≡ Ok left) (λ line. IsErrAnd mapped (P line)) → (left : Left) → mapped ≡ Ok left → left_of left ≡ s
taken s (Ok own) mapped P is same left e = let told : own ≡ left = cc in ap left_of (sym told) ∙ is
taken s (Err line) mapped P over refused left e = absurd (subst (λ m. IsErrAnd m (P line)) e refused)

pub refused_line : (s : Load) (of : Result Left Line) (mapped : Result Left BuildRefusal) (P : Line → BuildRefusal → Type 0) →
    MatchResult of (λ left. left_of left ≡ s) (λ line. Over s line) → MatchResult of (λ left. mapped ≡ Ok left) (λ line. IsErrAnd mapped (P line)) →
    ((line : Line) (e : BuildRefusal) → P line e → e ≡ NoPlan line) → (e : BuildRefusal) → mapped ≡ Err e → (line : Line) × (e ≡ NoPlan line) × Over s line
refused_line s (Ok own) mapped P is same gives e was = absurd (let told = sym same ∙ was in cc)
refused_line s (Err line) mapped P over refused gives e was = (line, gives line e (subst (λ m. IsErrAnd m (P line)) was refused), over)

pub same_error : {T E : Type 0} (r : Result T E) (e : E) (P : E → Type 0) → ((x : E) → P x → x ≡ e) → IsErrAnd r P → r ≡ Err e
same_error (Ok x) e P gives h = absurd h
same_error (Err x) e P gives h = ap Err (gives x h)

pub over_not_within : (s : Load) (line : Line) → Over s line → Within s → ⊥
over_not_within s (Task t) over within = omega (arith, over.1, within.tasks t over.0)
over_not_within s (Processor p) over within = omega (arith, over.1.1, within.processors p over.1.0)

pub over_not_plannable : (s : Load) (line : Line) → Over s line → Plannable s → ⊥
over_not_plannable s line over plan = over_not_within s line over (within_if_plannable s plan)

pub exact : (admits : Rule) (s : Load) (room room' : List Slot) (answer : Result ℕ BuildRefusal) → BuildAnswer admits s room room' answer → Exact s room answer
exact admits s room room' (Ok count) (places, out) =
    record {
      refuses = (λ h. let told = h.1 in cc, λ no'. absurd (no' (read (take count room'), out.plan)));
      lacks = (λ e. cc, λ h. absurd (omega (arith, h.1)));
      serves = (λ _. ((read (take count room'), out.plan), places), λ _. (count, refl));
    }
exact admits s room room' (Err (NoPlan line)) (over, none, same) =
    record {
      refuses = (λ _. none, λ _. (line, refl));
      lacks = (λ e. cc, λ h. absurd (none h.0));
      serves = (λ h. let told = h.1 in cc, λ h. absurd (none h.0));
    }
exact admits s room room' (Err NoRoom) (plan, short, same) =
    record {
      refuses = (λ h. let told = h.1 in cc, λ none. absurd (none plan));
      lacks = (λ _. (plan, short), λ _. refl);
      serves = (λ h. let told = h.1 in cc, λ h. absurd (omega (arith, h.1)));
    }
