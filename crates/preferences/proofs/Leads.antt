-- The row leads all covers so far.
use Rattle.std.proofs.Common.{◌≡◌, ℕ, ◌+◌, ◌<◌, ◌≤◌, Bool, ◌⊎◌, length, Some, None, Option, sym, refl, ap, ◌∙◌, subst, inl, inr, ⊎_elim, arith}
use Rattle.std.proofs.lemmas.Bool.{cases_eq, cases_lt}
use Rattle.graphs.specs.Graphs.{Shape, Small, Row, at}
use Rattle.pairings.specs.Pairings.{Paired}
use Rattle.pairings.specs.Flips.{Flipped}
use Rattle.graphs.specs.Covers.{Marking, Cover}
use Rattle.pairings.specs.Servings.{Serving}
use Rattle.preferences.specs.Preferences.{Order, EntryBefore, First}
use Rattle.pairings.proofs.Servings.{cover_serving, serving_cover, nobody, same_rows}
use Rattle.preferences.specs.Reach.{node, Closed, Agrees, Leading, Led, Best, Chosen}
use Rattle.preferences.proofs.Missing.{reached_task}

pub serving_paired : (g : Shape) (marks : Marking) (row : Row) → Small g → Serving g marks.urgent marks.full (at row) → Paired row
serving_paired g marks row few s = record {
  small = λ p t o. omega (arith, (s.edges p t o).0, few.firsts_few);
  apart = s.apart;
}

pub leading_none : (order : Order) (had : Row) (g : Shape) (marks : Marking) (row : Row) → Cover g marks row → Leading order had g marks row 0
leading_none order had g marks row c = record {
  wide = c.wide;
  serving = cover_serving g marks row c;
  first = λ f s. inl (λ q l. absurd (omega arith));
}

pub leading_on : (order : Order) (had : Row) (g : Shape) (marks : Marking) (row : Row) (p : ℕ) (next : Row) → Leading order had g marks row p → (o : Option ℕ) → o ≡ at had p → Led order o g marks row p next → Leading order had g marks next (p + 1)
leading_on order had g marks row p next b o is l = record {
  wide = l.wide;
  serving = l.serving;
  first = λ f s. ⊎_elim
      (λ same. ⊎_elim
      (λ e. inl (λ q k. ⊎_elim (λ z. ap (at next) z ∙ e ∙ ap f (sym z)) (λ ne. l.same q (omega arith) ∙ same q (omega arith)) (cases_eq q p)))
      (λ d. inr (record { place = p; low = omega arith; same = λ q k. l.same q k ∙ same q k; differs = subst (λ y. EntryBefore order p y (at next p) (f p)) is d }))
      (l.best f (record { serving = s; same = same })))
      (λ w. inr (record {
        place = w.place;
        low = omega (arith, w.low);
        same = λ q k. l.same q (omega (arith, w.low)) ∙ w.same q k;
        differs = subst (λ e. EntryBefore order w.place (at had w.place) e (f w.place)) (sym (l.same w.place w.low)) w.differs;
      }))
      (b.first f s);
}

pub leading_all : (order : Order) (had : Row) (g : Shape) (marks : Marking) (row : Row) (p : ℕ) → g.seconds ≤ 16 → g.seconds ≤ p → Leading order had g marks row p → First order g marks had row
leading_all order had g marks row p few all b = record {
  cover = serving_cover g marks row few b.wide b.serving;
  first = λ other c. ⊎_elim
      (λ same. inl (same_rows row other b.wide c.wide (λ q. ⊎_elim
      (λ l. same q l)
      (λ l. nobody (at row q) (λ t h. omega (arith, (b.serving.edges q t h).1)) ∙ sym (nobody (at other q) (λ t h. omega (arith, (c.edges q t h).1))))
      (cases_lt q p))))
      (λ w. inr (record { place = w.place; same = w.same; differs = w.differs }))
      (b.first (at other) (cover_serving g marks other c));
}

module _ (order : Order) (had : Option ℕ) (g : Shape) (marks : Marking) (row holder : Row) (p : ℕ) (in' : ℕ → Bool) (wide : length row ≡ 16) (s : Serving g marks.urgent marks.full (at row)) (h : Flipped 64 row holder) (c : Closed g marks row holder p in') (few : g.seconds ≤ 16) (inside : p < g.seconds) where
  -- nothing can be given to p
  pub led_idle : Chosen order had g holder in' p g.firsts None → Led order had g marks row p row
  led_idle none = record {
    wide = wide;
    serving = s;
    same = λ q l. refl;
    best = λ f a. inl (nobody (at row p) own ∙ sym (nobody (f p) (λ t o. none t (a.serving.edges p t o).0 (a.serving.edges p t o).2 (reached_task g marks row holder p in' s h c few inside f a t o))));
  }
    where
      own : (t : ℕ) → at row p ≡ Some t → ⊥
      own t o = none t (s.edges p t o).0 (s.edges p t o).2 (ap (λ y. in' (node y)) (h.forth p t o) ∙ c.start)

  -- the best task is given to p
  pub led_given : (a : ℕ) → Best order had g holder in' p g.firsts a → (next : Row) → length next ≡ 16 → Serving g marks.urgent marks.full (at next) → ((q : ℕ) → q < p → at next q ≡ at row q) → at next p ≡ Some a → Led order had g marks row p next
  led_given a b next wide' s' same here = record {
    wide = wide';
    serving = s';
    same = same;
    best = λ f ag. entry f ag (f p) refl;
  }
    where
      entry : (f : ℕ → Option ℕ) → Agrees g marks row p f → (o : Option ℕ) → f p ≡ o → (at next p ≡ f p) ⊎ EntryBefore order p had (at next p) (f p)
      entry f ag None none = inr (subst (λ e. EntryBefore order p had (at next p) e) (sym none) (subst (λ e. EntryBefore order p had e None) (sym here) tt))
      entry f ag (Some d) o = ⊎_elim
          (λ z. inl (here ∙ ap Some z ∙ sym o))
          (λ z. inr (subst (λ e. EntryBefore order p had (at next p) e) (sym o) (subst (λ e. EntryBefore order p had e (Some d)) (sym here) z)))
          (b.best d (ag.serving.edges p d o).0 (ag.serving.edges p d o).2 (reached_task g marks row holder p in' s h c few inside f ag d o))
