-- One slot after another.
use Rattle.std.proofs.Common.{◌≡◌, ℕ, ◌+◌, ◌*◌, ◌<◌, ◌≤◌, Bool, true, false, leb, List, length, drop, Ok, Err, sym, refl, ◌∙◌, arith}
use Rattle.std.proofs.lemmas.List.{at_drop_more}
use Rattle.std.proofs.lemmas.Bool.{leb-true, and_parts}
use Rattle.builder.specs.declared.slots.Slot.{Slot}
use Rattle.sheets.specs.Questions.{from_to, asked}
use Rattle.templates.specs.Calls.{Answer, slot_answer, each_answer, sum_answer, slots_answer}
use Rattle.templates.specs.Layouts.{total, no_slot, slot_at}
use Rattle.templates.specs.Rows.{row_fits}
use Rattle.templates.specs.declared.refusals.TemplateRefusal.{TemplateRefusal}
use Rattle.templates.specs.declared.refusals.TemplateRefusal.TheVariants.{SlotTicksOutOfRange, SlotPairsWrong}

abbrev passed : Answer
passed = Ok tt

-- an answer of two questions, whatever comes next
two_pass : (a b : Bool) (e f : TemplateRefusal) (u : Unit {0}) (next : Answer) → asked a e (asked b f passed) ≡ Ok u → asked a e (asked b f next) ≡ next
two_pass true true e f u next h = refl
two_pass true false e f u next h = absurd (cc)
two_pass false true e f u next h = absurd (cc)
two_pass false false e f u next h = absurd (cc)

two_fail : (a b : Bool) (e f g : TemplateRefusal) (next : Answer) → asked a e (asked b f passed) ≡ Err g → asked a e (asked b f next) ≡ Err g
two_fail true true e f g next h = absurd (cc)
two_fail true false e f g next h = h
two_fail false true e f g next h = h
two_fail false false e f g next h = h

two_first : (a b : Bool) (e f : TemplateRefusal) (u : Unit {0}) → asked a e (asked b f passed) ≡ Ok u → a ≡ true
two_first true b e f u h = refl
two_first false b e f u h = absurd (cc)

module _ (n m l : ℕ) (s : Slot) where
  slot_passes : (u : Unit {0}) (next : Answer) → slot_answer n m l s (Ok tt) ≡ Ok u → slot_answer n m l s next ≡ next
  slot_passes u next h = two_pass (from_to 1 l s.ticks) (row_fits n m s.row) SlotTicksOutOfRange SlotPairsWrong u next h

  slot_fails : (g : TemplateRefusal) (next : Answer) → slot_answer n m l s (Ok tt) ≡ Err g → slot_answer n m l s next ≡ Err g
  slot_fails g next h = two_fail (from_to 1 l s.ticks) (row_fits n m s.row) SlotTicksOutOfRange SlotPairsWrong g next h

  slot_short : (u : Unit {0}) → slot_answer n m l s (Ok tt) ≡ Ok u → s.ticks ≤ l
  slot_short u h =
      leb-true s.ticks l (and_parts (leb 1 s.ticks) (leb s.ticks l)
      (two_first (from_to 1 l s.ticks) (row_fits n m s.row) SlotTicksOutOfRange SlotPairsWrong u h)).1

-- the first i slots have passed, and their ticks are added up
pub record Passed (n m l : ℕ) (slots : List Slot) (sum i : ℕ) : Type 0 where
  pub adds : sum + total (drop i slots) ≡ total slots
  pub light : sum ≤ i * 4294967296
  pub rest : each_answer n m l (drop i slots) (sum_answer l (total slots)) ≡ slots_answer n m l slots

module _ {n m l : ℕ} {slots : List Slot} {sum i : ℕ} (w : Passed n m l slots sum i) where
  module _ (inside : i < length slots) where
    ahead : slot_answer n m l (slot_at slots i) (each_answer n m l (drop (i + 1) slots) (sum_answer l (total slots))) ≡ slots_answer n m l slots
    ahead = sym (at_drop_more (λ (xs : List Slot). each_answer n m l xs (sum_answer l (total slots))) slots i no_slot inside) ∙ w.rest

    pub passed_more : (u : Unit {0}) → l < 4294967296 → Ok u ≡ slot_answer n m l (slot_at slots i) (Ok tt) → Passed n m l slots (sum + (slot_at slots i).ticks) (i + 1)
    passed_more u small ok =
        let t : total (drop i slots) ≡ (slot_at slots i).ticks + total (drop (i + 1) slots) = at_drop_more total slots i no_slot inside in
        let a = w.adds in
        let b = w.light in
        let c = slot_short n m l (slot_at slots i) u (sym ok) in
        record { adds = omega arith; light = omega arith; rest = sym (slot_passes n m l (slot_at slots i) u _ (sym ok)) ∙ ahead }

    pub passed_fails : (g : TemplateRefusal) → Err g ≡ slot_answer n m l (slot_at slots i) (Ok tt) → Err g ≡ slots_answer n m l slots
    passed_fails g bad = sym (slot_fails n m l (slot_at slots i) g _ (sym bad)) ∙ ahead
