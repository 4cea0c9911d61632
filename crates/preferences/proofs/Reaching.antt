-- The table of a search grows.
use Rattle.std.proofs.Common.{◌≡◌, ℕ, ◌+◌, ◌<◌, ◌≤◌, Bool, true, false, not, Some, None, Option, length, set, sym, refl, ap, ◌∙◌, subst, ⊎_elim, arith, length-set, get_or-set_other, get_or-set_same}
use Rattle.std.proofs.lemmas.Bool.{cases_eq, both_ways, not_from_false, not_from_true}
use Rattle.std.specs.Prelude.{is_some}
use Rattle.counting.specs.Sums.{count_below}
use Rattle.counting.proofs.Counts.{count_without, without, without_other, without_same, count_same, count_le}
use Rattle.graphs.specs.Graphs.{Shape, Row}
use Rattle.graphs.specs.Covers.{Marking}
use Rattle.preferences.specs.declared.trails.Trail.{Trail}
use Rattle.preferences.specs.declared.trails.Reach.{Reach}
use Rattle.preferences.specs.Reach.{reach_at, reach_depth, reach_via, reach_by, reach_followed, reached, depth_of, via_of, by_of, followed, left_over, Kind, Hop, Trailed, HasRoom, Ticked, More}

pub some_reached : (t : Trail) (x : ℕ) → 0 < depth_of t x → reached t x ≡ true
some_reached t x pos = by_entry (reach_at t x) pos
  where
    by_entry : (o : Option Reach) → 0 < reach_depth o → is_some o ≡ true
    by_entry None pos = absurd (omega arith)
    by_entry (Some r) pos = refl

pub reached_some : (t : Trail) (x : ℕ) → reached t x ≡ true → 0 < depth_of t x
reached_some t x e = by_entry (reach_at t x) e
  where
    by_entry : (o : Option Reach) → is_some o ≡ true → 0 < reach_depth o
    by_entry None e = absurd (both_ways false refl e)
    by_entry (Some r) e = omega arith

-- what is not reached has no depth, and is not followed
pub unreached : (t : Trail) (x : ℕ) → reach_at t x ≡ None → (depth_of t x ≡ 0) × (followed t x ≡ false)
unreached t x e = (ap reach_depth e, ap reach_followed e)

pub left_few : (t : Trail) → left_over t ≤ 17
unfolding left_over
left_few t = few 17 (λ x. not (followed t x))
  where
    few : (n : ℕ) (f : ℕ → Bool) → count_below n f ≤ n
    few n f = count_le n f

pub left_same : (s t : Trail) → More s t → left_over t ≡ left_over s
unfolding left_over
left_same s t more = count_same 17 (λ x. not (followed t x)) (λ x. not (followed s x)) (λ x _. ap not (more.same x))

pub left_less : (s t : Trail) (x : ℕ) → Ticked s x t → left_over s ≡ left_over t + 1
unfolding left_over
left_less s t x k = less 17 k.before.near
  where
    open_in : Trail → ℕ → Bool
    open_in u z = not (followed u z)

    point : (i : ℕ) → without (open_in s) x i ≡ open_in t i
    point i = ⊎_elim
        (λ e. ap (without (open_in s) x) e ∙ without_same (open_in s) x ∙ sym (not_from_true (followed t x) k.after) ∙ ap (open_in t) (sym e))
        (λ ne. sym (without_other (open_in s) x i ne) ∙ ap (λ r. not (reach_followed r)) (sym (k.others i ne)))
        (cases_eq i x)

    less : (n : ℕ) → x < n → count_below n (λ z. not (followed s z)) ≡ count_below n (λ z. not (followed t z)) + 1
    less n l = omega (arith, count_without n (open_in s) x l (not_from_false (followed s x) k.before.open'), count_same n (without (open_in s) x) (open_in t) (λ i _. point i))

pub more_none : (t : Trail) → More t t
more_none t = record { kept = λ x pos. refl; same = λ x. refl }

pub more_on : (r s t : Trail) → More r s → More s t → More r t
more_on r s t a b = record {
  kept = λ x pos. b.kept x (omega (arith, a.kept x pos)) ∙ a.kept x pos;
  same = λ x. b.same x ∙ a.same x;
}

pub more_some : (s t : Trail) → More s t → (x : ℕ) → 0 < depth_of s x → 0 < depth_of t x
more_some s t m x pos = omega (arith, m.kept x pos)

pub room_more : (s t : Trail) (y : ℕ) → More s t → HasRoom s y → HasRoom t y
room_more s t y m room = record {
  near = room.near;
  some = omega (arith, m.kept y room.some, room.some);
  room = omega (arith, m.kept y room.some, left_same s t m, room.room);
}

pub hop_same : (g : Shape) (marks : Marking) (row : Row) (s t : Trail) (x : ℕ) → Hop g marks row s x → depth_of t x ≡ depth_of s x → depth_of t (via_of s x) ≡ depth_of s (via_of s x) → via_of t x ≡ via_of s x → by_of t x ≡ by_of s x → Hop g marks row t x
hop_same g marks row s t x h here there v b = record {
  some = subst (λ y. 0 < depth_of t y) (sym v) (omega (arith, h.some));
  less = subst (λ y. depth_of t y < depth_of t x) (sym v) (omega (arith, h.less));
  kind = subst (λ y. Kind g marks row x y (by_of t x)) (sym v) (subst (λ o. Kind g marks row x (via_of s x) o) (sym b) h.kind);
}

-- x is reached from y, at the depth d
module _ (t : Trail) (x y d : ℕ) (by : Option ℕ) (near : x < 17) (wide : length t.nodes ≡ 17) (room : HasRoom t y) (deep : d ≡ depth_of t y) (new : reach_at t x ≡ None) where
  abbrev pub grown : Trail
  grown = record { nodes = set t.nodes x (Some (record { depth = d; via = y; by = by; followed = false })) }

  here : reach_at grown x ≡ Some (record { depth = d; via = y; by = by; followed = false })
  here = get_or-set_same t.nodes x (Some (record { depth = d; via = y; by = by; followed = false })) None (omega arith)

  others : (z : ℕ) → (z ≡ x → ⊥) → reach_at grown z ≡ reach_at t z
  others z ne = get_or-set_other t.nodes x z (Some (record { depth = d; via = y; by = by; followed = false })) None ne

  pub was_not : (z : ℕ) → 0 < depth_of t z → z ≡ x → ⊥
  was_not z pos e = omega (arith, ap (depth_of t) e, (unreached t x new).0)

  pub grown_more : More t grown
  grown_more = record {
    kept = λ z pos. ap reach_depth (others z (was_not z pos));
    same = λ z. ⊎_elim
        (λ e. ap (followed grown) e ∙ ap reach_followed here ∙ sym (unreached t x new).1 ∙ ap (followed t) (sym e))
        (λ ne. ap reach_followed (others z ne))
        (cases_eq z x);
  }

  pub grown_here : depth_of grown x ≡ depth_of t y + 1
  grown_here = omega (arith, ap reach_depth here)

  pub grown_trailed : (g : Shape) (marks : Marking) (row : Row) (start : ℕ) → Trailed g marks row start t → start < x → Kind g marks row x y by → Trailed g marks row start grown
  grown_trailed g marks row start w late kind = record {
    wide = length-set t.nodes x (Some (record { depth = d; via = y; by = by; followed = false })) ∙ wide;
    first = omega (arith, w.first, grown_more.kept start w.first);
    late = λ z pos. ⊎_elim (λ e. omega arith) (λ ne. w.late z (omega (arith, else' z ne))) (cases_eq z x);
    low = λ z. ⊎_elim
        (λ e. omega (arith, ap (depth_of grown) e, grown_here, left_same t grown grown_more, room.room))
        (λ ne. omega (arith, else' z ne, left_same t grown grown_more, w.low z))
        (cases_eq z x);
    tree = λ z pos low ne. ⊎_elim
        (λ e. subst (λ v. Hop g marks row grown v) (sym e) hop)
        (λ nx. old z nx (w.tree z (omega (arith, else' z nx)) (omega (arith, w.low z)) ne))
        (cases_eq z x);
  }
    where
      else' : (z : ℕ) → (z ≡ x → ⊥) → depth_of grown z ≡ depth_of t z
      else' z ne = ap reach_depth (others z ne)

      hop : Hop g marks row grown x
      hop = record {
        some = subst (λ v. 0 < depth_of grown v) (sym (ap reach_via here)) (omega (arith, grown_more.kept y room.some, room.some));
        less = subst (λ v. depth_of grown v < depth_of grown x) (sym (ap reach_via here)) (omega (arith, grown_more.kept y room.some, grown_here));
        kind = subst (λ v. Kind g marks row x v (by_of grown x)) (sym (ap reach_via here)) (subst (λ o. Kind g marks row x y o) (sym (ap reach_by here)) kind);
      }

      old : (z : ℕ) → (z ≡ x → ⊥) → Hop g marks row t z → Hop g marks row grown z
      old z nx h = hop_same g marks row t grown z h (else' z nx) (else' (via_of t z) (was_not (via_of t z) h.some)) (ap reach_via (others z nx)) (ap reach_by (others z nx))

-- one more node is followed
module _ (s t : Trail) (x : ℕ) (k : Ticked s x t) where
  same : {A : Type 0} (f : Option Reach → A) → f (reach_at t x) ≡ f (reach_at s x) → (z : ℕ) → f (reach_at t z) ≡ f (reach_at s z)
  same f here z = ⊎_elim
      (λ e. ap (λ v. f (reach_at t v)) e ∙ here ∙ ap (λ v. f (reach_at s v)) (sym e))
      (λ ne. ap f (k.others z ne))
      (cases_eq z x)

  pub ticked_depth : (z : ℕ) → depth_of t z ≡ depth_of s z
  ticked_depth = same reach_depth k.depth

  pub ticked_trailed : (g : Shape) (marks : Marking) (row : Row) (start : ℕ) → Trailed g marks row start s → Trailed g marks row start t
  ticked_trailed g marks row start w = record {
    wide = k.wide;
    first = omega (arith, w.first, ticked_depth start);
    late = λ z pos. w.late z (omega (arith, ticked_depth z));
    low = λ z. omega (arith, w.low z, ticked_depth z, left_less s t x k);
    tree = λ z pos low ne. hop_same g marks row s t z (w.tree z (omega (arith, ticked_depth z)) (omega (arith, ticked_depth z)) ne) (ticked_depth z) (ticked_depth (via_of s z)) (same reach_via k.via z) (same reach_by k.by z);
  }

  pub ticked_room : (g : Shape) (marks : Marking) (row : Row) (start : ℕ) → Trailed g marks row start s → HasRoom t x
  ticked_room g marks row start w = record {
    near = k.before.near;
    some = omega (arith, ticked_depth x, k.before.some);
    room = omega (arith, w.low x, ticked_depth x, left_less s t x k);
  }
