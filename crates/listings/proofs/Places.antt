-- Texts listed one after another.
use Rattle.std.specs.List.{sum_by}
use Rattle.std.proofs.Common.{◌≡◌, ℕ, zero, suc, ◌+◌, ◌*◌, ◌<◌, ◌≤◌, List, [], ◌∷◌, ◌++◌, length, get_or, take, drop, Some, None, decimal, Option, refl, sym, ap, ◌∙◌, subst, zero-le, arith}
use mathlib.Core.Logic.{∥∥₁_elim}
use native.Mathlib.Bridge.{le_prop}
use Rattle.std.proofs.lemmas.Fmt.{length-decimal-le}
use Rattle.std.proofs.lemmas.List.{append_assoc, take_at, drop_at, drop-drop, length-append, take_more, flat_map_more}
use Rattle.std.proofs.lemmas.List.Concat.{length-flat_map}
use Rattle.std.proofs.lemmas.List.Folds.{length-flat_map-take}
use Rattle.builder.specs.declared.slots.Slot.{Slot}
use Rattle.listings.specs.Lines.{put_at}
use Rattle.graphs.specs.Graphs.{Row, at}
use Rattle.listings.specs.Listing.{Listed, entry_text, entries_text, line_end, slot_line, slots_text}
use Rattle.templates.specs.Layouts.{Layout, Sound, slot_at}

-- a text put behind the one that is listed
listed_more : (text line output : List ℕ) {k end : ℕ} {output' output'' : List ℕ} → Listed text output output' (Some k) → k + length line ≤ length output →
    end ≡ k + length line → output'' ≡ put_at k line output' → Listed (text ++ line) output output'' (Some end)
listed_more text line output {k} (long, fits, was) room after now =
    let rest = drop k output in
    let tail : drop (k + length line) (text ++ rest) ≡ drop (k + length line) output =
    sym (drop-drop (length line) k (text ++ rest)) ∙ ap (drop (length line)) (drop_at text rest k (sym long)) ∙ drop-drop (length line) k output in (
      omega (arith, length-append text line),
      omega arith,
      now
          ∙ ap (put_at k line) was
          ∙ (λ i. take_at text rest k (sym long) i ++ (line ++ tail i))
          ∙ sym (append_assoc text line (drop (k + length line) output))
          ∙ ap (λ j. (text ++ line) ++ drop j output) (sym after),
    )

abbrev pub no_slot : Slot
no_slot = record { ticks = 0; row = [] }

-- the line of slot i behind those of the slots below it
module _ (first : List ℕ) (m : ℕ) (slots : List Slot) (i : ℕ) (more : i < length slots) {line : List ℕ} (is : line ≡ slot_line m (get_or slots i no_slot))
    (output : List ℕ) {output' : List ℕ} {k : ℕ} (was : Listed (first ++ slots_text m (take i slots)) output output' (Some k))
    (room : length first + length (slots_text m slots) ≤ length output) where
  pub slot_room : k + length line ≤ length output
  slot_room =
      let (long, fits, now) = was in
      omega (arith, ap length is, length-append first (slots_text m (take i slots)), length-flat_map-take (slot_line m) slots i no_slot more)

  slots_more : slots_text m (take i slots) ++ line ≡ slots_text m (take (i + 1) slots)
  slots_more =
      ap (λ (text : List ℕ). slots_text m (take i slots) ++ text) is ∙ flat_map_more (slot_line m) [] (take i slots) (get_or slots i no_slot)
      ∙ sym (ap (slots_text m) (take_more slots i no_slot more))

  pub slot_listed : {end : ℕ} {output'' : List ℕ} → end ≡ k + length line → output'' ≡ put_at k line output' →
      Listed (first ++ slots_text m (take (i + 1) slots)) output output'' (Some end)
  slot_listed {end} {output''} after now =
      subst (λ (text : List ℕ). Listed text output output'' (Some end))
      (append_assoc first (slots_text m (take i slots)) line ∙ ap (λ (text : List ℕ). first ++ text) slots_more)
      (listed_more (first ++ slots_text m (take i slots)) line output was slot_room after now)

-- the lines' lengths, added up
pub slots_long : (m : ℕ) (slots : List Slot) (n : ℕ) → n ≡ sum_by (λ slot. length (slot_line m slot)) slots → n ≡ length (slots_text m slots)
slots_long m slots n e = e ∙ sym (length-flat_map (slot_line m) slots)

-- a blank and at most two digits
entry_short : (entry : Option ℕ) → ((t : ℕ) → entry ≡ Some t → t < 100) → length (entry_text entry) ≤ 3
entry_short (Some t) few = omega (arith, length-decimal-le 2 t (omega arith) (omega (arith, few t refl)) (omega (arith, few t refl)))
entry_short None few = omega arith

entries_short : (row : Row) (m : ℕ) → ((p t : ℕ) → at row p ≡ Some t → t < 100) → length (entries_text row m) ≤ 3 * m
entries_short row zero few = zero-le
entries_short row (suc p) few =
    omega (arith, length-append (entries_text row p) (entry_text (at row p)), entries_short row p few, entry_short (at row p) (few p))

line_short : (m : ℕ) (s : Slot) → m ≤ 16 → s.ticks ≤ 1000000000 → ((p t : ℕ) → at s.row p ≡ Some t → t < 100) → length (slot_line m s) ≤ 59
line_short m s narrow brief few =
    omega (
      arith,
      length-append (decimal s.ticks) (entries_text s.row m ++ line_end),
      length-append (entries_text s.row m) line_end,
      length-decimal-le 10 s.ticks (omega arith) (omega arith) (omega arith),
      entries_short s.row m few,
    )

lines_short : (m : ℕ) (slots : List Slot) → ((i : ℕ) → i < length slots → length (slot_line m (slot_at slots i)) ≤ 59) → length (slots_text m slots) ≤ 59 * length slots
lines_short m [] short = zero-le
lines_short m (s ∷ slots) short =
    omega (arith, length-append (slot_line m s) (slots_text m slots), short 0 (omega arith), lines_short m slots (λ i more. short (suc i) (omega arith)))

-- no line of a template is longer than fifty-nine bytes
pub slots_short : (l : Layout) → ∥ Sound l ∥₁ → {m : ℕ} {slots : List Slot} → m ≡ l.processors → slots ≡ l.slots → length (slots_text m slots) ≤ 59 * length slots
slots_short l sound {m} e f =
    let all : length (slots_text m l.slots) ≤ 59 * length l.slots =
    ∥∥₁_elim sound le_prop
    (λ s. lines_short m l.slots
    (λ i more. line_short m (slot_at l.slots i) (omega (arith, e, s.processors_most)) (omega (arith, s.slot_most i more, s.frame_most))
    (λ p t is. omega (arith, (s.named i p t is).0, s.tasks_most)))) in
    subst (λ (slots : List Slot). length (slots_text m slots) ≤ 59 * length slots) (sym f) all
