-- One more node reached.
use Rattle.std.proofs.Common.{◌≡◌, ℕ, suc, ◌<◌, ◌≢◌, cond, eqb, length, set, replicate, is_some, Some, None, Option, sym, refl, ap, ◌∙◌, subst, ⊎_elim, arith, length-set, get_or-set_other, get_or-set_same}
use lib.ListN.{length-replicate}
use Rattle.std.specs.Prelude.{IsSome, IsNone}
use Rattle.std.proofs.lemmas.Bool.{cases_eq, ne_eqb, eq-eqb, both_ways}
use Rattle.graphs.specs.Graphs.{Shape, Row, at}
use Rattle.graphs.specs.Search.{Hops, hop_to, Fresh, Step, Edge, Grown, Owned, Found}
use Rattle.graphs.proofs.Tables.{filled, some_of, none_of}
use Rattle.graphs.specs.declared.matching.Hop.{Hop}
use Rattle.graphs.specs.declared.matching.Hop.TheVariants.{FromStart, FromOwnerOf}

-- the hops before a node is reached
pub grown_none : (g : Shape) (start : ℕ) (owner : Row) → Grown g start owner (replicate 64 None)
grown_none g start owner = record {
  wide = length-replicate {A = Option Hop} 64 None;
  turn = λ b. 0;
  tree = λ r b h e low. let none = filled {A = Option Hop} None 64 b in absurd (cc);
}

pub owned_none : (owner : Row) → Owned owner (replicate 64 None)
owned_none owner b some = absurd (both_ways (is_some (hop_to (replicate 64 None) b)) (ap is_some (filled {A = Option Hop} None 64 b)) some)

-- what a step reaches is a neighbour of some node
stepped : (g : Shape) (start : ℕ) (owner : Row) (hops : Hops) (to : ℕ) (hop : Hop) → Step g start owner hops to hop → (a : ℕ) × Fresh g hops a to
stepped g start owner hops to FromStart fresh = (start, fresh)
stepped g start owner hops to (FromOwnerOf c) (_, (a, _, fresh)) = (a, fresh)

-- the turn after that of the node that a hop starts from
abbrev next : (ℕ → ℕ) → Hop → ℕ
next turn FromStart = 0
next turn (FromOwnerOf c) = suc (turn c)

module _ (g : Shape) (start : ℕ) (owner : Row) (hops : Hops) (to : ℕ) (hop : Hop) (fits : to < length hops) (free : IsNone (hop_to hops to)) where
  abbrev after : Hops
  after = set hops to (Some hop)

  there : hop_to after to ≡ Some hop
  there = get_or-set_same hops to (Some hop) None fits

  else : (b : ℕ) → b ≢ to → hop_to after b ≡ hop_to hops b
  else b ne = get_or-set_other hops to b (Some hop) None ne

  known : (b : ℕ) → IsSome (hop_to hops b) → b ≢ to
  known b some e = both_ways (is_some (hop_to hops to)) free (ap (λ x. is_some (hop_to hops x)) (sym e) ∙ some)

  kept : (b : ℕ) → IsSome (hop_to hops b) → IsSome (hop_to after b)
  kept b some = ap is_some (else b (known b some)) ∙ some

  module _ (turn : ℕ → ℕ) where
    abbrev turn_after : ℕ → ℕ
    turn_after b = cond (eqb b to) (next turn hop) (turn b)

    turn_else : (b : ℕ) → b ≢ to → turn_after b ≡ turn b
    turn_else b ne = ap (λ x. cond x (next turn hop) (turn b)) (ne_eqb b to ne)

    turn_there : turn_after to ≡ next turn hop
    turn_there = ap (λ x. cond x (next turn hop) (turn to)) (eq-eqb to to refl)

    edge_else : (b : ℕ) (h : Hop) → b ≢ to → Edge g start owner hops turn b h → Edge g start owner after turn_after b h
    edge_else b FromStart ne edge = edge
    edge_else b (FromOwnerOf c) ne (earlier, some, owns) = (omega (arith, turn_else b ne, turn_else c (known c some)), kept c some, owns)

  owned_more : IsSome (at owner to) → Owned owner hops → Owned owner after
  owned_more owns owned b some = ⊎_elim
      (λ e. let (a, is) = some_of (at owner to) owns in (a, ap (at owner) e ∙ is))
      (λ ne. owned b (ap is_some (sym (else b ne)) ∙ some))
      (cases_eq b to)

edge_there : (g : Shape) (start : ℕ) (owner : Row) (hops : Hops) (to : ℕ) (hop : Hop) (fits : to < length hops) (free : IsNone (hop_to hops to)) (turn : ℕ → ℕ) → Step g start owner hops to hop → Edge g start owner (after g start owner hops to hop fits free) (turn_after g start owner hops to hop fits free turn) to hop
edge_there g start owner hops to FromStart fits free turn fresh = fresh.edge
edge_there g start owner hops to (FromOwnerOf c) fits free turn (some, (a, owns, fresh)) = (
  omega (arith, turn_there g start owner hops to (FromOwnerOf c) fits free turn, turn_else g start owner hops to (FromOwnerOf c) fits free turn c (known g start owner hops to (FromOwnerOf c) fits free c some)),
  kept g start owner hops to (FromOwnerOf c) fits free c some,
  (a, owns, fresh.edge),
)

module _ (g : Shape) (start : ℕ) (owner : Row) (hops : Hops) (to : ℕ) (hop : Hop) (grown : Grown g start owner hops) (step : Step g start owner hops to hop) where
  new : (a : ℕ) × Fresh g hops a to
  new = stepped g start owner hops to hop step

  fits_in : to < length hops
  fits_in = omega (arith, new.1.fits, grown.wide)

  pub grow : Grown g start owner (set hops to (Some hop))
  grow = record {
    wide = length-set hops to (Some hop) ∙ grown.wide;
    turn = turn_after g start owner hops to hop fits_in new.1.unreached grown.turn;
    tree = λ r b h e low. ⊎_elim
        (λ q.
        let P : ℕ → Type 0 = λ x. (x < g.seconds) × (x < 64) × Edge g start owner (set hops to (Some hop)) (turn_after g start owner hops to hop fits_in new.1.unreached grown.turn) x h in
        let same : hop ≡ h = let t = there g start owner hops to hop fits_in new.1.unreached in let u = ap (hop_to (set hops to (Some hop))) (sym q) ∙ e in cc in
        let Q : Hop → Type 0 = λ x. Edge g start owner (set hops to (Some hop)) (turn_after g start owner hops to hop fits_in new.1.unreached grown.turn) to x in
        subst P (sym q) (new.1.inside, new.1.fits, subst Q same (edge_there g start owner hops to hop fits_in new.1.unreached grown.turn step)))
        (λ ne.
        let (inside, fits, edge) = grown.tree (grown.turn b) b h (sym (else g start owner hops to hop fits_in new.1.unreached b ne) ∙ e) (omega arith) in
        (inside, fits, edge_else g start owner hops to hop fits_in new.1.unreached grown.turn b h ne edge))
        (cases_eq b to);
  }

  pub owned : IsSome (at owner to) → Owned owner hops → Owned owner (set hops to (Some hop))
  owned = owned_more g start owner hops to hop fits_in new.1.unreached

  pub found : IsNone (at owner to) → Found g start owner (set hops to (Some hop)) to
  found none = record { grown = grow; free = none_of (at owner to) none; reached = ap is_some (there g start owner hops to hop fits_in new.1.unreached) }
