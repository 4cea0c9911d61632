-- A matching after one move, and after its last.
use Rattle.std.proofs.Common.{◌≡◌, ℕ, ◌+◌, ◌<◌, ◌≤◌, Bool, true, false, ◌⊎◌, set, replicate, is_some, Some, None, Option, sym, ap, ◌∙◌, subst, inl, inr, ⊎_elim, arith, length-set, get_or-set_other, get_or-set_same}
use lib.ListN.{length-replicate}
use Rattle.std.proofs.lemmas.Bool.{cases_eq, both_ways}
use Rattle.std.specs.Prelude.{IsSome}
use Rattle.graphs.specs.Graphs.{Shape, Row, at}
use Rattle.graphs.specs.Search.{Hops, hop_to, Edge, Found, Matched, Walk}
use Rattle.graphs.proofs.Tables.{filled, some_of}
use Rattle.graphs.specs.declared.matching.Hop.{Hop}
use Rattle.graphs.specs.declared.matching.Hop.TheVariants.{FromStart, FromOwnerOf}

clash : (o : Option ℕ) (a : ℕ) → o ≡ None → o ≡ Some a → ⊥
clash o a p q = let z : ◌≡◌ {A = ℕ} 0 1 = cc in omega arith

one_value : (o : Option ℕ) (a e : ℕ) → o ≡ Some a → o ≡ Some e → a ≡ e
one_value o a e p q = cc

-- an unmarked node needs no partner
pub skipped : (g : Shape) (marked : ℕ → Bool) (s : ℕ) (owner : Row) → marked s ≡ false → Matched g marked s owner → Matched g marked (s + 1) owner
skipped g marked s owner off m = record {
  wide = m.wide;
  edges = λ b a h. let (l, i, j, k) = m.edges b a h in (omega arith, i, j, k);
  apart = m.apart;
  all = λ a l k. ⊎_elim (λ e. absurd (both_ways (marked s) off (ap marked (sym e) ∙ k))) (λ ne. m.all a (omega arith) k) (cases_eq a s);
}

module _ (g : Shape) (marked : ℕ → Bool) (s : ℕ) (owner : Row) (b : ℕ) (m : Matched g marked s owner) (inside : b < g.seconds) (fits : b < 64) (free : at owner b ≡ None) where
  -- a free node for the start
  pub finished : g.joined s b ≡ true → marked s ≡ true → Matched g marked (s + 1) (set owner b (Some s))
  finished edge chosen = record {
    wide = length-set owner b (Some s) ∙ m.wide;
    edges = λ x a h. ⊎_elim
        (λ e. let q : a ≡ s = one_value (at owner' x) a s h (ap (at owner') e ∙ here) in (omega arith, subst (λ y. y < g.seconds) (sym e) inside, ap (λ y. g.joined y x) q ∙ ap (g.joined s) e ∙ edge, ap marked q ∙ chosen))
        (λ ne. let (l, i, j, k) = m.edges x a (sym (other x ne) ∙ h) in (omega arith, i, j, k))
        (cases_eq x b);
    apart = λ x y a h k. ⊎_elim
        (λ e. ⊎_elim (λ f. e ∙ sym f) (λ nf. absurd (late y a (one_value (at owner' x) a s h (ap (at owner') e ∙ here)) (sym (other y nf) ∙ k))) (cases_eq y b))
        (λ ne. ⊎_elim (λ f. absurd (late x a (one_value (at owner' y) a s k (ap (at owner') f ∙ here)) (sym (other x ne) ∙ h))) (λ nf. m.apart x y a (sym (other x ne) ∙ h) (sym (other y nf) ∙ k)) (cases_eq y b))
        (cases_eq x b);
    all = λ a l k. ⊎_elim (λ e. (b, here ∙ ap Some (sym e))) (λ ne. let (x, h) = m.all a (omega arith) k in (x, other x (λ e. clash (at owner x) a (ap (at owner) e ∙ free) h) ∙ h)) (cases_eq a s);
  }
    where
      owner' : Row
      owner' = set owner b (Some s)

      here : at owner' b ≡ Some s
      here = get_or-set_same owner b (Some s) None (omega (arith, m.wide))

      other : (x : ℕ) → (x ≡ b → ⊥) → at owner' x ≡ at owner x
      other x ne = get_or-set_other owner b x (Some s) None ne

      late : (x a : ℕ) → a ≡ s → at owner x ≡ Some a → ⊥
      late x a e h = omega (arith, (m.edges x a h).0)

  -- a free node for the owner of another, which is then free
  module _ (c a : ℕ) (near : c < 64) (owns : at owner c ≡ Some a) where
    abbrev moved_row : Row
    moved_row = set (set owner c None) b (Some a)

    apart_nodes : b ≡ c → ⊥
    apart_nodes e = clash (at owner b) a free (ap (at owner) e ∙ owns)

    pub moved_there : at moved_row c ≡ None
    moved_there = get_or-set_other (set owner c None) b c (Some a) None (λ e. apart_nodes (sym e)) ∙ get_or-set_same owner c None None (omega (arith, m.wide))

    moved_here : at moved_row b ≡ Some a
    moved_here = get_or-set_same (set owner c None) b (Some a) None (omega (arith, m.wide, length-set owner c None))

    pub moved_else : (x : ℕ) → (x ≡ b → ⊥) → (x ≡ c → ⊥) → at moved_row x ≡ at owner x
    moved_else x nb nc = get_or-set_other (set owner c None) b x (Some a) None nb ∙ get_or-set_other owner c x None None nc

    came : (x e : ℕ) → at moved_row x ≡ Some e → ((x ≡ b) × (e ≡ a)) ⊎ ((x ≡ c → ⊥) × (at owner x ≡ Some e))
    came x e h = ⊎_elim
        (λ q. inl (q, one_value (at moved_row x) e a h (ap (at moved_row) q ∙ moved_here)))
        (λ nb. let nc : x ≡ c → ⊥ = λ q. clash (at moved_row x) e (ap (at moved_row) q ∙ moved_there) h in inr (nc, sym (moved_else x nb nc) ∙ h))
        (cases_eq x b)

    pub moved : g.joined a b ≡ true → Matched g marked s moved_row
    moved edge = record {
      wide = length-set (set owner c None) b (Some a) ∙ length-set owner c None ∙ m.wide;
      edges = λ x e h. ⊎_elim
          (λ (q, r). let (l, i, j, k) = m.edges c a owns in (omega arith, subst (λ y. y < g.seconds) (sym q) inside, ap (λ y. g.joined y x) r ∙ ap (g.joined a) q ∙ edge, ap marked r ∙ k))
          (λ (nc, o). m.edges x e o)
          (came x e h);
      apart = λ x y e h k. ⊎_elim
          (λ (q, r). ⊎_elim (λ (q', _). q ∙ sym q') (λ (nc, o). absurd (nc (m.apart y c a (o ∙ ap Some r) owns))) (came y e k))
          (λ (nc, o). ⊎_elim (λ (q', r'). absurd (nc (m.apart x c a (o ∙ ap Some r') owns))) (λ (_, o'). m.apart x y e o o') (came y e k))
          (came x e h);
      all = λ e l k. let (x, h) = m.all e l k in ⊎_elim
          (λ q. (b, moved_here ∙ ap Some (one_value (at owner c) a e owns (ap (at owner) (sym q) ∙ h))))
          (λ nc. (x, moved_else x (λ q. clash (at owner x) e (ap (at owner) q ∙ free) h) nc ∙ h))
          (cases_eq x c);
    }

-- the walk back along the hops
pub walk_starts : (g : Shape) (marked : ℕ → Bool) (start : ℕ) (owner : Row) (hops : Hops) (b : ℕ) → Matched g marked start owner → Found g start owner hops b → Walk g marked start owner hops b
walk_starts g marked start owner hops b m f = record {
  matched = m;
  wide = f.grown.wide;
  free = f.free;
  reached = f.reached;
  turn = f.grown.turn;
  tree = f.grown.tree (f.grown.turn b);
}

module _ (g : Shape) (marked : ℕ → Bool) (start : ℕ) (owner : Row) (hops : Hops) (b : ℕ) (w : Walk g marked start owner hops b) where
  pub walk_edge : (h : Hop) → hop_to hops b ≡ Some h → (b < g.seconds) × (b < 64) × Edge g start owner hops w.turn b h
  walk_edge h is = w.tree b h is (omega arith)

  module _ (c : ℕ) (is : hop_to hops b ≡ Some (FromOwnerOf c)) where
    earlier : w.turn c < w.turn b
    earlier = (walk_edge (FromOwnerOf c) is).2.0

    known : IsSome (hop_to hops c)
    known = (walk_edge (FromOwnerOf c) is).2.1

    pub walk_near : c < 64
    walk_near = let (h, e) = some_of (hop_to hops c) known in (w.tree c h e (omega (arith, earlier))).1

    held : (a : ℕ) × (at owner c ≡ Some a) × (g.joined a b ≡ true)
    held = (walk_edge (FromOwnerOf c) is).2.2

    abbrev a : ℕ
    a = held.0

    owns : at owner c ≡ Some a
    owns = held.1

    abbrev after : Row
    after = set (set owner c None) b (at owner c)

    left : (x : ℕ) → w.turn x < w.turn b → hop_to (set hops b None) x ≡ hop_to hops x
    left x l = get_or-set_other hops b x None None (λ e. omega (arith, ap w.turn e))

    same : (x : ℕ) → w.turn x < w.turn c → at after x ≡ at owner x
    same x l = rw owns (moved_else g marked start owner b w.matched (walk_edge (FromOwnerOf c) is).0 (walk_edge (FromOwnerOf c) is).1 w.free c a walk_near owns x (λ e. omega (arith, earlier, ap w.turn e)) (λ e. omega (arith, ap w.turn e)))

    edge_after : (y : ℕ) (h : Hop) → w.turn y ≤ w.turn c → Edge g start owner hops w.turn y h → Edge g start after (set hops b None) w.turn y h
    edge_after y FromStart l edge = edge
    edge_after y (FromOwnerOf x) l (before, some, (e, o, j)) = (before, ap is_some (left x (omega (arith, earlier))) ∙ some, (e, same x (omega arith) ∙ o, j))

    walked : Walk g marked start after (set hops b None) c
    walked = record {
      matched = rw owns (moved g marked start owner b w.matched (walk_edge (FromOwnerOf c) is).0 (walk_edge (FromOwnerOf c) is).1 w.free c a walk_near owns held.2);
      wide = length-set hops b None ∙ w.wide;
      free = rw owns (moved_there g marked start owner b w.matched (walk_edge (FromOwnerOf c) is).0 (walk_edge (FromOwnerOf c) is).1 w.free c a walk_near owns);
      reached = ap is_some (left c earlier) ∙ known;
      turn = w.turn;
      tree = λ y h e l. let (inside, fits, edge) = w.tree y h (sym (left y (omega (arith, earlier))) ∙ e) (omega (arith, earlier)) in (inside, fits, edge_after y h l edge);
    }

    pub walk_on : (x : Option ℕ) → x ≡ at owner c → Walk g marked start (set (set owner c None) b x) (set hops b None) c
    walk_on x same = subst (λ y. Walk g marked start (set (set owner c None) b y) (set hops b None) c) (sym same) walked

  pub walk_ends : hop_to hops b ≡ Some FromStart → marked start ≡ true → Matched g marked (start + 1) (set owner b (Some start))
  walk_ends is chosen = let (inside, fits, edge) = walk_edge FromStart is in finished g marked start owner b w.matched inside fits w.free edge chosen

pub matched_none : (g : Shape) (marked : ℕ → Bool) → Matched g marked 0 (replicate 64 None)
matched_none g marked = record {
  wide = length-replicate {A = Option ℕ} 64 None;
  edges = λ b a h. absurd (clash (at (replicate 64 None) b) a (filled {A = Option ℕ} None 64 b) h);
  apart = λ b c a h k. absurd (clash (at (replicate 64 None) b) a (filled {A = Option ℕ} None 64 b) h);
  all = λ a l k. absurd (omega arith);
}
