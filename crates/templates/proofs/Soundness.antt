-- What passes every question is sound, and what is sound passes every question.
use Rattle.std.proofs.Common.{◌≡◌, ℕ, ◌<◌, ◌≤◌, Bool, true, false, eqb, leb, List, [], ◌∷◌, length, Ok, sym, refl, ap, ◌∙◌, subst, ⊎_elim}
use Rattle.std.proofs.ByRecursion.{All-get_or, All-from_get_or}
use Rattle.std.proofs.lemmas.List.{get_or_past}
use Rattle.std.proofs.lemmas.Bool.{cases_lt, and_parts, and_from, leb-true, le-leb, eqb-true, eq-eqb}
use Rattle.std.specs.List.{AllByRecursion as All}
use Rattle.builder.specs.declared.slots.Slot.{Slot}
use Rattle.sheets.specs.Questions.{from_to, most, asked}
use Rattle.templates.specs.Calls.{Answer, each_answer, slots_answer, adopt_answer}
use Rattle.templates.specs.Laws.{AdoptsTheSound}
use Rattle.templates.specs.Layouts.{laid, blank, idle_slot, no_slot, slot_at, total, Sound}
use Rattle.templates.specs.Rows.{row_fits}
use Rattle.templates.specs.declared.refusals.TemplateRefusal.{TemplateRefusal}
use Rattle.templates.specs.declared.refusals.TemplateRefusal.TheVariants.{TasksOutOfRange, ProcessorsOutOfRange, FrameOutOfRange, TooManySlots, SlotTicksOutOfRange, SlotPairsWrong, SlotsDoNotAddUp}
use Rattle.templates.proofs.Fitting.{RowSound, row_sound, row_from}

-- a question
passes : (b : Bool) (e : TemplateRefusal) (next : Answer) → asked b e next ≡ Ok tt → (b ≡ true) × (next ≡ Ok tt)
passes true e next h = (refl, h)
passes false e next h = absurd (cc)

asks : (b : Bool) (e : TemplateRefusal) (next : Answer) → b ≡ true → asked b e next ≡ next
asks b e next h = ap (λ v. asked v e next) h

within : (low high n : ℕ) → from_to low high n ≡ true → (low ≤ n) × (n ≤ high)
within low high n h =
    let p = and_parts (leb low n) (leb n high) h in
    (leb-true low n p.0, leb-true n high p.1)

from_within : (low high n : ℕ) → low ≤ n → n ≤ high → from_to low high n ≡ true
from_within low high n a b = and_from _ _ (le-leb low n a) (le-leb n high b)

-- the slots, in order
module _ (n m l : ℕ) where
  abbrev Fits : Slot → Type 0
  Fits s = (from_to 1 l s.ticks ≡ true) × (row_fits n m s.row ≡ true)

  each_passes : (slots : List Slot) (next : Answer) → each_answer n m l slots next ≡ Ok tt → All Fits slots × (next ≡ Ok tt)
  each_passes [] next h = (tt, h)
  each_passes (s ∷ slots) next h =
      let a = passes (from_to 1 l s.ticks) SlotTicksOutOfRange _ h in
      let b = passes (row_fits n m s.row) SlotPairsWrong _ a.1 in
      let r = each_passes slots next b.1 in
      (((a.0, b.0), r.0), r.1)

  each_from : (slots : List Slot) (next : Answer) → All Fits slots → each_answer n m l slots next ≡ next
  each_from [] next h = refl
  each_from (s ∷ slots) next h =
      asks (from_to 1 l s.ticks) SlotTicksOutOfRange _ h.0.0 ∙ asks (row_fits n m s.row) SlotPairsWrong _ h.0.1 ∙ each_from slots next h.1

  row_at : (slots : List Slot) → All Fits slots → (i : ℕ) → RowSound n m (slot_at slots i).row
  row_at slots h i =
      ⊎_elim (λ k. row_sound n m (slot_at slots i).row (All-get_or Fits slots i no_slot k h).1)
      (λ k. subst (λ (s : Slot). RowSound n m s.row) (sym (get_or_past slots i no_slot k)) (row_sound n m [] refl))
      (cases_lt i (length slots))

  module _ (slots : List Slot) where
    sound_from : adopt_answer n m l slots ≡ Ok tt → Sound (laid n m l slots)
    sound_from h =
        let a = passes (from_to 1 64 n) TasksOutOfRange _ h in
        let b = passes (from_to 1 16 m) ProcessorsOutOfRange _ a.1 in
        let c = passes (from_to 1 most l) FrameOutOfRange _ b.1 in
        let d = passes (leb (length slots) 1104) TooManySlots _ c.1 in
        let e = each_passes slots _ d.1 in
        let f = passes (eqb (total slots) l) SlotsDoNotAddUp _ e.1 in
        record {
          tasks_some = (within 1 64 n a.0).0;
          tasks_most = (within 1 64 n a.0).1;
          processors_some = (within 1 16 m b.0).0;
          processors_most = (within 1 16 m b.0).1;
          frame_some = (within 1 most l c.0).0;
          frame_most = (within 1 most l c.0).1;
          slots_most = leb-true (length slots) 1104 d.0;
          slot_some = λ i k. (within 1 l (slot_at slots i).ticks (All-get_or Fits slots i no_slot k e.0).0).0;
          slot_most = λ i k. (within 1 l (slot_at slots i).ticks (All-get_or Fits slots i no_slot k e.0).0).1;
          named = λ i. (row_at slots e.0 i).named;
          apart = λ i. (row_at slots e.0 i).apart;
          whole = eqb-true (total slots) l f.0;
        }

    -- the first four questions pass, so the slots decide
    slots_decide : 1 ≤ n → n ≤ 64 → 1 ≤ m → m ≤ 16 → 1 ≤ l → l ≤ 1000000000 → length slots ≤ 1104 → adopt_answer n m l slots ≡ slots_answer n m l slots
    slots_decide a b c d e f g =
        asks (from_to 1 64 n) TasksOutOfRange _ (from_within 1 64 n a b)
        ∙ asks (from_to 1 16 m) ProcessorsOutOfRange _ (from_within 1 16 m c d)
        ∙ asks (from_to 1 most l) FrameOutOfRange _ (from_within 1 most l e f)
        ∙ asks (leb (length slots) 1104) TooManySlots _ (le-leb (length slots) 1104 g)

    -- what a store holds after it took accepted slots
    pub adopted_sound : {held : List Slot} → 1 ≤ n → n ≤ 64 → 1 ≤ m → m ≤ 16 → 1 ≤ l → l ≤ 1000000000 → length slots ≤ 1104 → Ok tt ≡ slots_answer n m l slots → held ≡ slots → Sound (laid n m l held)
    adopted_sound a b c d e f g ok same =
        subst (λ kept. Sound (laid n m l kept)) (sym same) (sound_from (slots_decide a b c d e f g ∙ sym ok))

    adopt_from : Sound (laid n m l slots) → adopt_answer n m l slots ≡ Ok tt
    adopt_from s =
        slots_decide s.tasks_some s.tasks_most s.processors_some s.processors_most s.frame_some s.frame_most s.slots_most
        ∙ each_from slots _ (All-from_get_or Fits slots no_slot fits)
        ∙ asks (eqb (total slots) l) SlotsDoNotAddUp _ (eq-eqb (total slots) l s.whole)
      where
        fits : (i : ℕ) → i < length slots → Fits (slot_at slots i)
        fits i k = (
          from_within 1 l (slot_at slots i).ticks (s.slot_some i k) (s.slot_most i k),
          row_from n m (slot_at slots i).row (record { named = s.named i; apart = s.apart i }),
        )

pub adopts_the_sound : AdoptsTheSound
adopts_the_sound n m l slots = (sound_from n m l slots, adopt_from n m l slots)

pub blank_sound : Sound blank
blank_sound = sound_from 1 1 1 (idle_slot 1 ∷ []) refl
