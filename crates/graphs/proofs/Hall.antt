-- A set with fewer neighbours than members.
use Rattle.std.proofs.Common.{◌≡◌, ℕ, suc, ◌<◌, ◌≤◌, Bool, true, false, ◌&&◌, ◌||◌, T, eqb, ◌⊎◌, Some, None, Option, sym, refl, ap, ◌∙◌, subst, inl, inr, ⊎_elim, arith}
use Rattle.std.proofs.lemmas.Bool.{eqb-true, eq-eqb, and_from, and_parts, or_cases, or_left, or_right}
use Rattle.std.specs.Prelude.{IsSome, is_some}
use Rattle.counting.specs.Sums.{count_below, any_below}
use Rattle.graphs.specs.Graphs.{Shape, Row, at, neighbour}
use Rattle.graphs.specs.Search.{Hops, hop_to, Stale, Closed, Owned, Matched, Hopeless}
use Rattle.counting.proofs.Counts.{count_without, without, without_other, count_inject, any_from, any_to}

pub from_T : (b : Bool) → T b → b ≡ true
from_T true t = refl
from_T false t = absurd t

pub to_T : (b : Bool) → b ≡ true → T b
to_T b e = subst T (sym e) tt

abbrev pub holds : ℕ → Option ℕ → Bool
holds a None = false
holds a (Some x) = eqb x a

holds_to : (a : ℕ) (o : Option ℕ) → holds a o ≡ true → o ≡ Some a
holds_to a None e = absurd (to_T false e)
holds_to a (Some x) e = ap Some (eqb-true x a e)

-- the start and the owners of what is reached
abbrev pub reached_firsts : Shape → ℕ → Row → Hops → ℕ → Bool
reached_firsts g start owner hops a = eqb a start || any_below g.seconds (λ c. is_some (hop_to hops c) && holds a (at owner c))

module _ (g : Shape) (start : ℕ) (owner : Row) (hops : Hops) where
  pub in_start : reached_firsts g start owner hops start ≡ true
  in_start = or_left (eqb start start) _ (eq-eqb start start refl)

  pub in_owner : (c a : ℕ) → c < g.seconds → IsSome (hop_to hops c) → at owner c ≡ Some a → reached_firsts g start owner hops a ≡ true
  in_owner c a l pos e = or_right (eqb a start) _ (any_from g.seconds (λ c. is_some (hop_to hops c) && holds a (at owner c)) c l
      (and_from (is_some (hop_to hops c)) (holds a (at owner c)) pos (ap (holds a) e ∙ eq-eqb a a refl)))

  pub in_ways : (a : ℕ) → reached_firsts g start owner hops a ≡ true → (a ≡ start) ⊎ ((c : ℕ) × (c < g.seconds) × (IsSome (hop_to hops c)) × (at owner c ≡ Some a))
  in_ways a e = ⊎_elim (λ s. inl (eqb-true a start s)) (λ s.
      let (c, l, t) = any_to g.seconds (λ c. is_some (hop_to hops c) && holds a (at owner c)) s in
      let (pos, o) = and_parts (is_some (hop_to hops c)) (holds a (at owner c)) t in
      inr (c, l, pos, holds_to a (at owner c) o)) (or_cases (eqb a start) _ e)

pub closed_hopeless : (g : Shape) (marked : ℕ → Bool) (start : ℕ) (owner : Row) (hops : Hops) → start < g.firsts → marked start ≡ true → Matched g marked start owner → Closed g start owner hops → Owned owner hops → Hopeless g marked
closed_hopeless g marked start owner hops inside chosen matched closed owned = (members, record { within = within; fewer = omega (arith, one_less, few) })
  where
    members : ℕ → Bool
    members = reached_firsts g start owner hops

    within : (a : ℕ) → a < g.firsts → T (members a) → T (marked a)
    within a l t = to_T (marked a) (⊎_elim (λ e. ap marked e ∙ chosen) (λ w. (matched.edges w.0 a w.3).3) (in_ways g start owner hops a (from_T (members a) t)))

    stale : (a : ℕ) → members a ≡ true → Stale g hops a
    stale a e = ⊎_elim (λ s. subst (λ x. Stale g hops x) (sym s) closed.at_start) (λ w. closed.onward w.0 w.1 a w.2 w.3) (in_ways g start owner hops a e)

    partner : (b : ℕ) → b < g.seconds → neighbour g members b ≡ true → (x : ℕ) × (x < g.firsts) × (without members start x ≡ true) × (at owner b ≡ Some x)
    partner b l e =
        let (a, la, t) = any_to g.firsts (λ a. members a && g.joined a b) e in
        let (m, j) = and_parts (members a) (g.joined a b) t in
        let pos = stale a m b l j in
        let (x, o) = owned b pos in
        let low : x < start = (matched.edges b x o).0 in
        (x, omega arith, sym (without_other members start x (λ s. omega arith)) ∙ in_owner g start owner hops b x l pos o, o)

    few : count_below g.seconds (neighbour g members) ≤ count_below g.firsts (without members start)
    few = count_inject (λ b x. at owner b ≡ Some x) g.seconds g.firsts (neighbour g members) (without members start) partner (λ i j x. matched.apart i j x)

    one_less : count_below g.firsts members ≡ suc (count_below g.firsts (without members start))
    one_less = count_without g.firsts members start inside (in_start g start owner hops)

pub matched_hopeful : (g : Shape) (marked : ℕ → Bool) (owner : Row) → Matched g marked g.firsts owner → Hopeless g marked → ⊥
matched_hopeful g marked owner matched (members, deficient) = omega (arith, deficient.fewer, enough)
  where
    partner : (a : ℕ) → a < g.firsts → members a ≡ true → (b : ℕ) × (b < g.seconds) × (neighbour g members b ≡ true) × (at owner b ≡ Some a)
    partner a l e =
        let (b, o) = matched.all a l (from_T (marked a) (deficient.within a l (to_T (members a) e))) in
        let (_, lb, j, _) = matched.edges b a o in
        (b, lb, any_from g.firsts (λ x. members x && g.joined x b) a l (and_from (members a) (g.joined a b) e j), o)

    same : (i j x : ℕ) → at owner x ≡ Some i → at owner x ≡ Some j → i ≡ j
    same i j x p q = cc

    enough : count_below g.firsts members ≤ count_below g.seconds (neighbour g members)
    enough = count_inject (λ a b. at owner b ≡ Some a) g.firsts g.seconds members (neighbour g members) partner same
