-- From what each step promises to what a draft promises.
use Rattle.std.proofs.Common.{◌≡◌, ℕ, ◌≤◌, List, length, take, drop, Ok, Err, Result, sym, refl, ap, ◌∙◌, subst, arith}
use Rattle.std.proofs.lemmas.List.{length-take-le}
use Rattle.builder.specs.Answers.{LaidOut, BuildAnswer}
use Rattle.builder.specs.Building.{read}
use Rattle.builder.specs.declared.refusals.BuildRefusal.{BuildRefusal}
use Rattle.builder.specs.declared.refusals.BuildRefusal.TheVariants.{NoPlan, NoRoom}
use Rattle.builder.specs.declared.slots.Slot.{Slot}
use Rattle.listings.specs.declared.refusals.Refusal.TheVariants.{Build}
use Rattle.plans.proofs.Plannable.{plans_stand}
use Rattle.planfiles.specs.Reading.{read_sheet}
use Rattle.sheets.specs.Loads.{Load, places_needed}
use Rattle.templates.specs.Calls.{adopt_answer, after_adopt, settled}
use Rattle.templates.specs.Layouts.{Layout, laid}
use Rattle.templates.specs.declared.refusals.TemplateRefusal.{TemplateRefusal}
use Rattle.templates.proofs.Soundness.{adopts_the_sound}
use Rattle.graphs.specs.Covers.{all_idle}
use Rattle.preferences.specs.Numbers.{first_by_number}
use Rattle.drafts.specs.Drafts.{Drafted, TemplateOf, Roomed}
use Rattle.drafts.proofs.Adopting.{built_sound}

pub refused_build : (file : List ℕ) (s : Load) (room room' : List Slot) (old : Layout) (refusal : BuildRefusal) →
    read_sheet file ≡ Ok s → BuildAnswer first_by_number s room room' (Err refusal) → Drafted file room room' old old (Err (Build refusal))
refused_build file s room room' old (NoPlan line) e answer = ((s, e, answer.0, answer.1), answer.2, refl)
refused_build file s room room' old NoRoom e answer = ((s, e, answer.0, answer.1), answer.2, refl)

-- the bounds that every sheet keeps
pub record Bounded (s : Load) : Type 0 where
  pub tasked : (1 ≤ s.tasks) × (s.tasks ≤ 64)
  pub manned : (1 ≤ s.processors) × (s.processors ≤ 16)
  pub framed : (1 ≤ s.frame) × (s.frame ≤ 1000000000)

module _ (s : Load) (room room' : List Slot) (count : ℕ) (bounded : Bounded s) (laid_out : LaidOut first_by_number s room room' count)
    (placed : places_needed s ≤ length room) (long : length room' ≡ length room) where
  front_length : length (take count room') ≡ count
  front_length = length-take-le count room' (let few = laid_out.few in omega arith)

  -- what was built is adopted
  pub adopted : adopt_answer s.tasks s.processors s.frame (take count room') ≡ Ok tt
  adopted =
      let within = (plans_stand s).1 (read (take count room'), laid_out.plan) in
      let few = laid_out.few in
      (adopts_the_sound s.tasks s.processors s.frame (take count room')).1
      (built_sound first_by_number s all_idle (take count room') bounded.tasked bounded.manned bounded.framed within (omega (arith, front_length)) laid_out.built)

  pub template_of : TemplateOf s (laid s.tasks s.processors s.frame (take count room')) × Roomed (take count room') room room'
  template_of =
      let few = laid_out.few in (
        record { tasks = refl; processors = refl; frame = refl; few = omega (arith, front_length); built = laid_out.built; plan = laid_out.plan },
        record {
          front = ap (λ k. take k room') front_length;
          rest = ap (λ k. drop k room') front_length ∙ laid_out.rest ∙ ap (λ k. drop k room) (sym front_length);
        },
      )

module _ {n m l : ℕ} {slots : List Slot} (s : Load) (front : List Slot) (a : n ≡ s.tasks) (b : m ≡ s.processors) (c : l ≡ s.frame) (d : slots ≡ front) where
  pub adopted_as : adopt_answer s.tasks s.processors s.frame front ≡ Ok tt → adopt_answer n m l slots ≡ Ok tt
  adopted_as e = (λ i. adopt_answer (a i) (b i) (c i) (d i)) ∙ e

  pub adopted_into : (old : Layout) → adopt_answer s.tasks s.processors s.frame front ≡ Ok tt → after_adopt old n m l slots ≡ laid s.tasks s.processors s.frame front
  adopted_into old e =
      (λ i. after_adopt old (a i) (b i) (c i) (d i)) ∙ ap (λ answer. settled answer (laid s.tasks s.processors s.frame front) old) e

pub never_refused : {x : TemplateRefusal} {answer : Result (Unit {0}) TemplateRefusal} {X : Type 0} → answer ≡ Ok tt → Err x ≡ answer → X
never_refused e f = let z : ◌≡◌ {A = ℕ} 0 1 = cc in absurd (omega arith)

pub drafted : (s : Load) (room room' : List Slot) (front : List Slot) (layout : Layout) → layout ≡ laid s.tasks s.processors s.frame front →
    TemplateOf s (laid s.tasks s.processors s.frame front) × Roomed front room room' → TemplateOf s layout × Roomed layout.slots room room'
drafted s room room' front layout e h = subst (λ (k : Layout). TemplateOf s k × Roomed k.slots room room') (sym e) h
