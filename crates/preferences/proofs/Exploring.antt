-- The search while it goes on.
use Rattle.std.proofs.Common.{◌≡◌, ℕ, ◌+◌, ◌<◌, true, false, length, set, replicate, Some, None, Option, sym, refl, ap, ◌∙◌, subst, ⊎_elim, arith, length-set, get_or-set_other, get_or-set_same}
use lib.ListN.{length-replicate}
use Rattle.std.proofs.lemmas.Bool.{cases_eq, cases_lt, cases_Bool, both_ways}
use Rattle.std.proofs.lemmas.List.{get_or_past}
use Rattle.graphs.specs.Graphs.{Shape, Row, at}
use Rattle.graphs.specs.Covers.{Marking}
use Rattle.pairings.specs.Flips.{Flipped}
use Rattle.pairings.proofs.Rows.{clash, all_same}
use Rattle.preferences.specs.declared.trails.Trail.{Trail}
use Rattle.preferences.specs.Reach.{node, Closed, reach_at, reach_depth, reach_followed, depth_of, followed, reached, Trailed, HasRoom, Ticked, More, Followed, Drawn, Expanded, Exploring, Drawing}
use Rattle.preferences.specs.declared.trails.Reach.{Reach}
use Rattle.preferences.proofs.Reaching.{some_reached, reached_some, left_few, more_on, more_some, ticked_depth}

pub followed_more : (g : Shape) (marks : Marking) (row : Row) (start : ℕ) (s t : Trail) (x : ℕ) → ((z : ℕ) → 0 < depth_of s z → 0 < depth_of t z) → Followed g marks row start s x → Followed g marks row start t x
followed_more g marks row start s t x m f = record {
  idle = λ e. m 16 (f.idle e);
  loose = λ a o u. m 16 (f.loose a o u);
  pass = λ a r o l k j. m r (f.pass a r o l k j);
}

pub drawn_more : (g : Shape) (marks : Marking) (row holder : Row) (start : ℕ) (s t : Trail) (k : ℕ) → ((z : ℕ) → 0 < depth_of s z → 0 < depth_of t z) → Drawn g marks row holder start s k → Drawn g marks row holder start t k
drawn_more g marks row holder start s t k m d = record {
  slack = λ r a l n o u. m r (d.slack r a l n o u);
  draw = λ a r la o l n j. m r (d.draw a r la o l n j);
}

-- one step of drawing
pub drawing_on : (g : Shape) (marks : Marking) (row holder : Row) (start : ℕ) (r s t : Trail) (k : ℕ) → Drawing g marks row holder start r s k → Trailed g marks row start t → More s t → HasRoom t 16 → ((a : ℕ) → at row k ≡ Some a → marks.full k ≡ false → 0 < depth_of t k) → ((a : ℕ) → a < g.firsts → at holder a ≡ None → g.joined a k ≡ true → 0 < depth_of t k) → Drawing g marks row holder start r t (k + 1)
drawing_on g marks row holder start r s t k w trailed more room slack draw = record {
  trailed = trailed;
  more = more_on r s t w.more more;
  room = room;
  drawn = record {
    slack = λ q a l n o u. ⊎_elim
        (λ e. subst (λ z. at row z ≡ Some a → marks.full z ≡ false → 0 < depth_of t z) (sym e) (slack a) o u)
        (λ ne. more_some s t more q (w.drawn.slack q a l (omega arith) o u))
        (cases_eq q k);
    draw = λ a q la o l n j. ⊎_elim
        (λ e. subst (λ z. g.joined a z ≡ true → 0 < depth_of t z) (sym e) (draw a la o) j)
        (λ ne. more_some s t more q (w.drawn.draw a q la o l (omega arith) j))
        (cases_eq q k);
  };
}

-- one step of the search
pub exploring_on : (g : Shape) (marks : Marking) (row holder : Row) (start : ℕ) (r s t : Trail) (x : ℕ) → Exploring g marks row holder start r → Ticked r x s → Trailed g marks row start t → More s t → Expanded g marks row holder start t x → Exploring g marks row holder start t
exploring_on g marks row holder start r s t x w k trailed more expanded = record {
  trailed = trailed;
  done = λ z l h. ⊎_elim
      (λ e. subst (λ v. Expanded g marks row holder start t v) (sym e) expanded)
      (λ ne. let (f, d) = w.done z l (ap reach_followed (sym (k.others z ne)) ∙ sym (more.same z) ∙ h) in
      ((λ b. followed_more g marks row start r t z kept (f b)), λ e. drawn_more g marks row holder start r t g.seconds kept (d e)))
      (cases_eq z x);
}
  where
    kept : (z : ℕ) → 0 < depth_of r z → 0 < depth_of t z
    kept z pos = more_some s t more z (omega (arith, ticked_depth r s x k z))

abbrev pub blank : ℕ → Trail
blank start = record { nodes = set (replicate 17 None) start (Some (record { depth = 0; via = start; by = None; followed = false })) }

pub exploring_none : (g : Shape) (marks : Marking) (row holder : Row) (start : ℕ) → start < 16 → Exploring g marks row holder start (blank start)
exploring_none g marks row holder start early = record {
  trailed = record {
    wide = length-set {A = Option Reach} (replicate 17 None) start (Some (record { depth = 0; via = start; by = None; followed = false })) ∙ length-replicate {A = Option Reach} 17 None;
    first = omega (arith, ap reach_depth here);
    late = λ z pos. ⊎_elim (λ e. omega arith) (λ ne. absurd (omega (arith, ap reach_depth (off z ne)))) (cases_eq z start);
    low = λ z. ⊎_elim (λ e. omega (arith, left_few (blank start), ap reach_depth here, ap (depth_of (blank start)) e)) (λ ne. omega (arith, left_few (blank start), ap reach_depth (off z ne))) (cases_eq z start);
    tree = λ z pos low ne. absurd (omega (arith, ap reach_depth (off z ne)));
  };
  done = λ z l h. absurd (both_ways (followed (blank start) z) (⊎_elim (λ e. ap (followed (blank start)) e ∙ ap reach_followed here) (λ ne. ap reach_followed (off z ne)) (cases_eq z start)) h);
}
  where
    here : reach_at (blank start) start ≡ Some (record { depth = 0; via = start; by = None; followed = false })
    here = get_or-set_same (replicate 17 None) start _ None (omega (arith, length-replicate {A = Option Reach} 17 None))

    off : (z : ℕ) → (z ≡ start → ⊥) → reach_at (blank start) z ≡ None
    off z ne = get_or-set_other (replicate 17 None) start z _ None ne ∙ all_same 17 z None

pub exploring_all : (g : Shape) (marks : Marking) (row holder : Row) (start : ℕ) (t : Trail) → length row ≡ 16 → Flipped 64 row holder → Exploring g marks row holder start t → ((x : ℕ) → x < 17 → 0 < depth_of t x → followed t x ≡ true) → Closed g marks row holder start (reached t)
exploring_all g marks row holder start t wide flipped w all = record {
  start = some_reached t start w.trailed.first;
  later = λ q l. ⊎_elim (λ e. absurd (omega (arith, w.trailed.late q (reached_some t q e)))) (λ e. e) (cases_Bool (reached t q));
  idle = λ q l e none. in_pool ((all_of q l e).idle none);
  loose = λ q a l e o u. in_pool ((all_of q l e).loose a o u);
  onward = λ a r la l n j e. some_reached t r (via (at holder a) a r refl la l n j e);
  slack = λ r a e l n o u. some_reached t r ((drawn e).slack r a l n o u);
}
  where
    in_pool : 0 < depth_of t 16 → reached t 16 ≡ true
    in_pool pos = some_reached t 16 pos

    all_of : (q : ℕ) → q < 16 → reached t q ≡ true → Followed g marks row start t q
    all_of q l e = (w.done q (omega arith) (all q (omega arith) (reached_some t q e))).0 l

    drawn : reached t 16 ≡ true → Drawn g marks row holder start t g.seconds
    drawn e = (w.done 16 (omega arith) (all 16 (omega arith) (reached_some t 16 e))).1 refl

    inside : (q a : ℕ) → at row q ≡ Some a → q < 16
    inside q a o = ⊎_elim (λ l. l) (λ l. absurd (clash (at row q) a (get_or_past row q None (omega arith)) o)) (cases_lt q 16)

    via : (o : Option ℕ) (a r : ℕ) → at holder a ≡ o → a < g.firsts → start < r → r < g.seconds → g.joined a r ≡ true → reached t (node (at holder a)) ≡ true → 0 < depth_of t r
    via None a r is la l n j e = (drawn (sym (ap (λ x. reached t (node x)) is) ∙ e)).draw a r la is l n j
    via (Some q) a r is la l n j e = let o = flipped.again q a is in (all_of q (inside q a o) (sym (ap (λ x. reached t (node x)) is) ∙ e)).pass a r o l n j
