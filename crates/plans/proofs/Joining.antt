-- A pairing that keeps the first nodes of one pairing and takes in the marked second nodes of another.
use Rattle.std.proofs.Common.{◌≡◌, ℕ, zero, suc, ◌+◌, ◌<◌, ◌≤◌, Bool, true, false, ◌&&◌, ◌⊎◌, Some, None, Option, refl, ap, ◌∙◌, inl, inr, arith}
use Rattle.std.proofs.lemmas.Bool.{cases_eq, both_ways, false≢true, and_parts, and_from}
use Rattle.counting.specs.Sums.{sum_below}
use Rattle.graphs.specs.Graphs.{Shape, turned}
use Rattle.counting.proofs.Sums.{sum_changed_at, sum_le_bound}
use Rattle.plans.proofs.Searching.{find_below}
use Rattle.plans.proofs.Rows.{Row, hit, used, put, put_at, put_off, hit_same, hit_other, hit_of, hit_le_one, hit_off, used_put, place_of, none_or_some}
use Rattle.plans.proofs.Pairings.{Edge, Pairing, entries_put, entries_clear}
use Rattle.plans.proofs.Hall.{PairsBelow}

-- one where the entry at q is paired with q by the other pairing too
abbrev agree : Row → ℕ → Option ℕ → ℕ
agree other q None = 0
agree other q (Some u) = hit q (other u)

abbrev agreement : ℕ → Row → Row → ℕ
agreement m other row = sum_below m (λ q. agree other q (row q))

agree_le : (other : Row) (q : ℕ) (o : Option ℕ) → agree other q o ≤ 1
agree_le other q None = omega arith
agree_le other q (Some u) = hit_le_one q (other u)

agreement_le : (m : ℕ) (other row : Row) → agreement m other row ≤ m
agreement_le m other row = sum_le_bound m (λ q. agree other q (row q)) (λ q h. agree_le other q (row q))

agreement_put : (m : ℕ) (other row : Row) (p : ℕ) (o : Option ℕ) → p < m → agreement m other (put row p o) + agree other p (row p) ≡ agreement m other row + agree other p o
agreement_put m other row p o h =
    let changed = sum_changed_at m (λ q. agree other q (put row p o q)) (λ q. agree other q (row q)) p h (λ q l ne. ap (agree other q) (put_off row p o q ne)) in
    omega (arith, ap (agree other p) (put_at row p o p refl))

-- a pairing that keeps the first nodes and agrees more
record Better (g : Shape) (other row row' : Row) : Type 0 where
  pairing : Pairing g row'
  kept : (u : ℕ) → used g.seconds row u ≤ used g.seconds row' u
  more : agreement g.seconds other row < agreement g.seconds other row'

-- the pair of u and q is brought in, where u is free
bring_free : (g : Shape) (other row : Row) → Pairing g row → (u q : ℕ) → q < g.seconds → row q ≡ None → other u ≡ Some q → Edge g u q → used g.seconds row u ≡ 0 → Better g other row (put row q (Some u))
bring_free g other row paired u q hq none pair edge free =
    record {
      pairing = record {
        edges = entries_put g.seconds (Edge g) row q u paired.edges edge;
        once = λ v. grind (arith, used_put g.seconds row q (Some u) v hq, cases_eq u v, hit_same v u, hit_other v u, paired.once v);
      };
      kept = λ v. omega (arith, used_put g.seconds row q (Some u) v hq, ap (hit v) none);
      more = omega (arith, agreement_put g.seconds other row q (Some u) hq, ap (agree other q) none, hit_of q (other u) pair);
    }

-- the pair of u and q is brought in, where u stands at p
bring_moved : (g : Shape) (other row : Row) → Pairing g row → (u q p : ℕ) → q < g.seconds → row q ≡ None → other u ≡ Some q → Edge g u q → p < g.seconds → row p ≡ Some u →
    Better g other row (put (put row p None) q (Some u))
bring_moved g other row paired u q p hq none pair edge hp some =
    record {
      pairing = record {
        edges = entries_put g.seconds (Edge g) (put row p None) q u (entries_clear g.seconds (Edge g) row p paired.edges) edge;
        once = λ v. omega (arith, uses v, paired.once v);
      };
      kept = λ v. omega (arith, uses v);
      more = omega (
        arith,
        agreement_put g.seconds other (put row p None) q (Some u) hq,
        agreement_put g.seconds other row p None hp,
        ap (agree other p) some,
        ap (hit p) pair,
        hit_other p q away,
        ap (agree other q) (put_off row p None q away ∙ none),
        hit_of q (other u) pair,
      );
    }
  where
    away : q ≡ p → ⊥
    away e = none_or_some (row q) u none (ap row e ∙ some)

    uses : (v : ℕ) → used g.seconds (put (put row p None) q (Some u)) v ≡ used g.seconds row v
    uses v = omega (arith, used_put g.seconds (put row p None) q (Some u) v hq, used_put g.seconds row p None v hp, ap (hit v) some, hit_off v row p None q away, ap (hit v) none)

bring : (g : Shape) (other row : Row) → Pairing g row → (u q : ℕ) → q < g.seconds → row q ≡ None → other u ≡ Some q → Edge g u q → (row' : Row) × Better g other row row'
bring g other row paired u q hq none pair edge =
    elim (cases_eq (used g.seconds row u) 0) [
      | inl free ↦ (put row q (Some u), bring_free g other row paired u q hq none pair edge free)
      | inr taken ↦
          let (p, hp, some) = place_of g.seconds row u taken in
          (put (put row p None) q (Some u), bring_moved g other row paired u q p hq none pair edge hp some)
    ]

abbrev idle : Option ℕ → Bool
idle None = true
idle (Some u) = false

none_if_idle : (o : Option ℕ) → idle o ≡ true → o ≡ None
none_if_idle None e = refl
none_if_idle (Some u) e = absurd (false≢true e)

-- a pairing with the first nodes of the row and every marked second node
pub record Joined (g : Shape) (full : ℕ → Bool) (row row' : Row) : Type 0 where
  pub pairing : Pairing g row'
  pub kept : (u : ℕ) → used g.seconds row u ≤ used g.seconds row' u
  pub all : (q : ℕ) → q < g.seconds → full q ≡ true → row' q ≡ None → ⊥

-- every marked second node stands in the row, or one can be brought in
join_look : (g : Shape) (full : ℕ → Bool) (other : Row) → PairsBelow (turned g) full g.seconds other → (row : Row) → Pairing g row → Joined g full row row ⊎ ((row' : Row) × Better g other row row')
join_look g full other pairs row paired =
    elim (find_below g.seconds (λ q. full q && idle (row q))) [
      | inl found ↦
          let (q, hq, both) = found in
          let (mark, free) = and_parts (full q) (idle (row q)) both in
          let (u, hu, pair) = place_of g.firsts other q (λ z. omega (arith, pairs.all q hq mark)) in
          inr (bring g other row paired u q hq (none_if_idle (row q) free) pair (hu, (pairs.paired.entries u q hu pair).1))
      | inr none ↦ inl (record {
        pairing = paired;
        kept = λ u. omega arith;
        all = λ q hq mark free. both_ways (full q && idle (row q)) (none q hq) (and_from (full q) (idle (row q)) mark (ap idle free));
      })
    ]

join_on : (fuel : ℕ) (g : Shape) (full : ℕ → Bool) (other : Row) → PairsBelow (turned g) full g.seconds other → (row : Row) → Pairing g row → g.seconds ≤ agreement g.seconds other row + fuel → (row' : Row) × Joined g full row row'
join_on zero g full other pairs row paired enough =
    elim (join_look g full other pairs row paired) [
      | inl done ↦ (row, done)
      | inr found ↦ let (row', better) = found in absurd (omega (arith, agreement_le g.seconds other row', better.more))
    ]
join_on (suc fuel) g full other pairs row paired enough =
    elim (join_look g full other pairs row paired) [
      | inl done ↦ (row, done)
      | inr found ↦
          let (row', better) = found in
          let (row'', joined) = join_on fuel g full other pairs row' better.pairing (omega (arith, better.more)) in
          (row'', record { pairing = joined.pairing; kept = λ u. omega (arith, better.kept u, joined.kept u); all = joined.all })
    ]

pub join : (g : Shape) (full : ℕ → Bool) (other : Row) → PairsBelow (turned g) full g.seconds other → (row : Row) → Pairing g row → (row' : Row) × Joined g full row row'
join g full other pairs row paired = join_on g.seconds g full other pairs row paired (omega arith)
