-- The walk that settles the sides of one part of the union.
use Rattle.std.proofs.Common.{◌≡◌, ℕ, ◌<◌, Bool, true, false, ◌⊎◌, length, set, replicate, Some, None, Option, sym, refl, ap, ◌∙◌, subst, inl, inr, ⊎_elim, arith, length-set, get_or-set_other, get_or-set_same}
use Rattle.std.proofs.lemmas.Bool.{cases_eq}
use Rattle.std.proofs.lemmas.List.{length-replicate}
use Rattle.graphs.specs.Graphs.{Row, at}
use Rattle.counting.specs.Sums.{count_below}
use Rattle.counting.proofs.Counts.{count_without, count_same, without, without_other, without_same}
use Rattle.pairings.proofs.Rows.{all_same}
use Rattle.pairings.specs.declared.walks.Side.{Side}
use Rattle.pairings.specs.declared.walks.Side.TheVariants.{Task, Processor}
use Rattle.pairings.specs.Union.{Sides, side_at, Own, differs, others, Joint, Leads, Shut, Walked, Grows}

pub same_side : (s : Side) → differs s (Some s) ≡ false
same_side Task = refl
same_side Processor = refl

differs_from : (s : Side) (o : Option Side) → (o ≡ Some s → ⊥) → differs s o ≡ true
differs_from s None h = refl
differs_from Task (Some Task) h = absurd (h refl)
differs_from Task (Some Processor) h = refl
differs_from Processor (Some Task) h = refl
differs_from Processor (Some Processor) h = absurd (h refl)

-- what does not hold of one side holds of the other
by_side : {A : Type 0} (s : Side) → (s ≡ Task → A) → (s ≡ Processor → A) → A
by_side Task f h = f refl
by_side Processor f h = h refl

fewer_one : (n : ℕ) (before after : ℕ → Bool) (q : ℕ) → q < n → before q ≡ true → after q ≡ false → ((i : ℕ) → (i ≡ q → ⊥) → after i ≡ before i) → count_below n after < count_below n before
fewer_one n before after q near e gone same = omega (
  arith,
  count_without n before q near e,
  count_same n after (without before q) (λ i l. ⊎_elim
      (λ z. cc (gone, without_same before q))
      (λ ne. same i ne ∙ without_other before q i ne)
      (cases_eq i q)),
)

module _ (sides : Sides) (q : ℕ) (fits : q < length sides) (s : Side) where
  pub put_here : side_at (set sides q (Some s)) q ≡ Some s
  put_here = get_or-set_same sides q (Some s) None fits

  pub put_else : (x : ℕ) → (x ≡ q → ⊥) → side_at (set sides q (Some s)) x ≡ side_at sides x
  put_else x ne = get_or-set_other sides q x (Some s) None ne

  pub own_from : (x : ℕ) → Own (set sides q (Some s)) x → ((x ≡ q) × (s ≡ Processor)) ⊎ ((x ≡ q → ⊥) × Own sides x)
  own_from x h = ⊎_elim
      (λ z. inl (z, cc (put_here, h)))
      (λ ne. inr (ne, sym (put_else x ne) ∙ h))
      (cases_eq x q)

  pub grows_put : (s ≡ Task → Own sides q → ⊥) → Grows sides (set sides q (Some s))
  grows_put free x h = ⊎_elim
      (λ z. by_side s (λ e. absurd (free e (cc))) (λ e. cc (put_here)))
      (λ ne. put_else x ne ∙ h)
      (cases_eq x q)

  pub fewer_others : (n : ℕ) → q < n → (side_at sides q ≡ Some s → ⊥) → others n s (set sides q (Some s)) < others n s sides
  fewer_others n near ne = fewer_one n (λ p. differs s (side_at sides p)) (λ p. differs s (side_at (set sides q (Some s)) p)) q near (differs_from s (side_at sides q) ne) (ap (differs s) put_here ∙ same_side s) (λ i other. ap (differs s) (put_else i other))

module _ {m n : ℕ} {own holder : Row} (j : Joint m n own holder) where
  pub walk_starts : {sides : Sides} (s : Side) (start : ℕ) → start < n → Shut n own holder sides → (s ≡ Processor → (t : ℕ) → at holder t ≡ Some start → ⊥) → (s ≡ Task → Own sides start → ⊥) → Walked n own holder (set sides start (Some s)) s start
  walk_starts {sides = sides} s start near shut first free = record {
    wide = length-set sides start (Some s) ∙ shut.wide;
    near = near;
    back = λ q t o h. ⊎_elim
        (λ w. absurd (first w.1 t (cc)))
        (λ w. let (r, k, m) = shut.back q t w.1 h in (r, k, grows r m))
        (own_from sides start fits s q o);
    on = λ q r o ne lead. ⊎_elim
        (λ w. absurd (ne w.0))
        (λ w. grows r (shut.on q r w.1 lead))
        (own_from sides start fits s q o);
    here = λ e. cc (put_here sides start fits s);
    not_here = λ e o. cc (put_here sides start fits s);
  }
    where
      fits : start < length sides
      fits = omega (arith, shut.wide)

      grows : Grows sides (set sides start (Some s))
      grows = grows_put sides start fits s free

  module _ {sides : Sides} {s : Side} {p : ℕ} (w : Walked n own holder sides s p) where
    pub one_way : (q r : ℕ) → Leads own holder p q → Leads own holder p r → r ≡ q
    one_way q r (t, o, h) (t', o', h') = let same : t ≡ t' = cc in cc

    pub walk_ends : ((q : ℕ) → Own sides p → Leads own holder p q → Own sides q) → Shut n own holder sides
    walk_ends last = record {
      wide = w.wide;
      back = w.back;
      on = λ q r o lead. ⊎_elim
          (λ z. last r (cc) (subst (λ y. Leads own holder y r) z lead))
          (λ ne. w.on q r o ne lead)
          (cases_eq q p);
    }

    module _ (q : ℕ) (lead : Leads own holder p q) where
      pub lead_near : q < n
      lead_near = j.near_holder lead.0 q lead.2

      pub lead_fits : q < length sides
      lead_fits = omega (arith, lead_near, w.wide)

      -- the task matching is kept only where no own edge leads in from what keeps its own
      pub lead_open : s ≡ Task → Own sides q → ⊥
      lead_open e k = let (r, m, o) = w.back q lead.0 k lead.2 in w.not_here e (subst (Own sides) (j.apart_own r p lead.0 m lead.1) o)

      pub walk_grows : Grows sides (set sides q (Some s))
      walk_grows = grows_put sides q lead_fits s lead_open

      pub walk_on : Walked n own holder (set sides q (Some s)) s q
      walk_on = record {
        wide = length-set sides q (Some s) ∙ w.wide;
        near = lead_near;
        back = λ x y k m. ⊎_elim
            (λ v. (p, lead.1 ∙ ap Some (j.apart_holder lead.0 y q lead.2 (cc)), walk_grows p (w.here v.1)))
            (λ v. let (r, a, b) = w.back x y v.1 m in (r, a, walk_grows r b))
            (own_from sides q lead_fits s x k);
        on = λ x r k ne way. ⊎_elim
            (λ v. absurd (ne v.0))
            (λ v. ⊎_elim
            (λ z. by_side s
            (λ e. absurd (w.not_here e (cc)))
            (λ e. cc (one_way q r lead (subst (λ y. Leads own holder y r) z way), put_here sides q lead_fits s)))
            (λ nz. walk_grows r (w.on x r v.1 nz way))
            (cases_eq x p))
            (own_from sides q lead_fits s x k);
        here = λ e. cc (put_here sides q lead_fits s);
        not_here = λ e k. cc (put_here sides q lead_fits s);
      }

pub shut_none : (n : ℕ) (own holder : Row) → Shut n own holder (replicate n None)
shut_none n own holder = record {
  wide = length-replicate {A = Option Side} n None;
  back = λ q t o h. cc (all_same {A = Option Side} n q None, o);
  on = λ q r o lead. cc (all_same {A = Option Side} n q None, o);
}
