-- The best of the tasks at hand, so far, and the answer of the first rule.
use Rattle.std.proofs.Common.{◌≡◌, ℕ, ◌+◌, ◌<◌, Bool, true, false, ◌&&◌, T, ◌⊎◌, Some, None, Option, sym, ap, ◌∙◌, subst, inl, inr, ⊎_elim, arith, MatchOption}
use Rattle.std.proofs.lemmas.Bool.{cases_eq, both_ways, and_from, and_parts}
use Rattle.graphs.specs.Graphs.{Shape, Small, Row, at}
use Rattle.graphs.specs.Covers.{Marking}
use Rattle.pairings.specs.Pairings.{Paired}
use Rattle.pairings.specs.Rules.{Rule, Chooses}
use Rattle.pairings.specs.declared.pairing.Pairing.{Pairing}
use Rattle.preferences.specs.Preferences.{Order, Preferring}
use Rattle.preferences.specs.Reach.{node, Best, Chosen}
use Rattle.graphs.proofs.Hall.{from_T, to_T}

module _ (order : Order) (had : Option ℕ) (g : Shape) (small : Small g) (holder : Row) (in' : ℕ → Bool) (p k : ℕ) where
  abbrev hand : ℕ → Bool
  hand b = in' (node (at holder b)) && g.joined b p

  pub chosen_not : (o : Option ℕ) → Chosen order had g holder in' p k o → (r : Bool) → r ≡ (in' (node (at holder k)) && g.joined k p) → r ≡ false → Chosen order had g holder in' p (k + 1) o
  chosen_not o c r is off = step o c
    where
      never : (b : ℕ) → b ≡ k → g.joined b p ≡ true → in' (node (at holder b)) ≡ true → ⊥
      never b e j i = both_ways r off (is ∙ ap hand (sym e) ∙ and_from (in' (node (at holder b))) (g.joined b p) i j)

      step : (o : Option ℕ) → Chosen order had g holder in' p k o → Chosen order had g holder in' p (k + 1) o
      step None c = λ b l j i. ⊎_elim (λ e. never b e j i) (λ ne. c b (omega arith) j i) (cases_eq b k)
      step (Some a) c = record {
        low = c.low;
        edge = c.edge;
        lies = c.lies;
        best = λ b l j i. ⊎_elim (λ e. absurd (never b e j i)) (λ ne. c.best b (omega arith) j i) (cases_eq b k);
      }

  module _ (prefers : Preferring order) (r : Bool) (inside : k < g.firsts) where
    pub chosen_skip : (o : Option ℕ) → Chosen order had g holder in' p k o → MatchOption o (r ≡ true) (λ a. r ≡ order p had k a) → r ≡ false → Chosen order had g holder in' p (k + 1) o
    chosen_skip None c is e = absurd (both_ways r e is)
    chosen_skip (Some a) c is e = record {
      low = c.low;
      edge = c.edge;
      lies = c.lies;
      best = λ b l j i. ⊎_elim
          (λ z. ⊎_elim
          (λ w. inl (w ∙ sym z))
          (λ ne. ⊎_elim (λ t. inr (subst (λ x. T (order p had a x)) (sym z) t)) (λ t. absurd (both_ways r e (is ∙ from_T (order p had k a) t))) (prefers.one_of_two p had a k (omega (arith, c.low, small.firsts_few)) (omega (arith, small.firsts_few)) ne))
          (cases_eq a k))
          (λ ne. c.best b (omega arith) j i)
          (cases_eq b k);
    }

    pub chosen_take : (o : Option ℕ) → Chosen order had g holder in' p k o → MatchOption o (r ≡ true) (λ a. r ≡ order p had k a) → r ≡ true → (h : Bool) → h ≡ (in' (node (at holder k)) && g.joined k p) → h ≡ true → Best order had g holder in' p (k + 1) k
    chosen_take o c is e h hand_is on = record {
      low = inside;
      edge = parts.1;
      lies = parts.0;
      best = λ b l j i. ⊎_elim (λ z. inl (sym z)) (λ ne. older o c is b (omega arith) j i) (cases_eq b k);
    }
      where
        parts : (in' (node (at holder k)) ≡ true) × (g.joined k p ≡ true)
        parts = and_parts (in' (node (at holder k))) (g.joined k p) (sym hand_is ∙ on)

        older : (o : Option ℕ) → Chosen order had g holder in' p k o → MatchOption o (r ≡ true) (λ a. r ≡ order p had k a) → (b : ℕ) → b < k → g.joined b p ≡ true → in' (node (at holder b)) ≡ true → (k ≡ b) ⊎ T (order p had k b)
        older None c is b l j i = absurd (c b l j i)
        older (Some a) c is b l j i =
            let t : T (order p had k a) = to_T (order p had k a) (sym is ∙ e) in
            ⊎_elim (λ w. inr (subst (λ x. T (order p had k x)) w t)) (λ w. inr (prefers.through p had k a b t w)) (c.best b l j i)

-- a row that has no task twice is never turned away
pub chosen : (admits : Rule) (g : Shape) (marks : Marking) (before row : Row) (answer : Option Pairing) → Paired row → admits g marks before row → MatchOption answer (Paired row → ⊥) (λ q. q.row ≡ row) → Chooses admits g marks before answer
chosen admits g marks before row None paired admitted m = absurd (m paired)
chosen admits g marks before row (Some q) paired admitted m = subst (λ (r : Row). admits g marks before r) (sym m) admitted
