-- The row while a task moves to the start.
use Rattle.std.proofs.Common.{◌≡◌, ℕ, ◌<◌, ◌≤◌, true, ◌⊎◌, length, set, Some, None, Option, sym, refl, ap, ◌∙◌, subst, inl, inr, ⊎_elim, arith, length-set, get_or-set_other, get_or-set_same}
use Rattle.std.proofs.lemmas.Bool.{cases_eq, cases_lt, both_ways}
use Rattle.std.proofs.lemmas.List.{get_or_past}
use Rattle.graphs.specs.Graphs.{Shape, Row, at}
use Rattle.graphs.specs.Covers.{Marking}
use Rattle.pairings.specs.Servings.{Serving}
use Rattle.pairings.proofs.Rows.{clash, one_value, fill_here, fill_else, fill_from}
use Rattle.preferences.specs.declared.trails.Trail.{Trail}
use Rattle.preferences.specs.declared.trails.Reach.{Reach}
use Rattle.pairings.specs.Flips.{Flipped}
use Rattle.preferences.specs.Reach.{node, reach_at, reach_via, reach_by, depth_of, via_of, by_of, Kind, Hop, Tree, Walk, Shifted}

past : (row : Row) → length row ≡ 16 → (x : ℕ) → 16 ≤ x → at row x ≡ None
past row wide x l = get_or_past row x None (omega arith)

-- a hop in another row that has the same entry at the node before, and holds no task that the first row does not hold
hop_in : (g : Shape) (marks : Marking) (row next : Row) (t : Trail) (z : ℕ) → Hop g marks row t z → at next (via_of t z) ≡ at row (via_of t z) → ((a q : ℕ) → via_of t z ≡ 16 → by_of t z ≡ Some a → at next q ≡ Some a → (r : ℕ) × (at row r ≡ Some a)) → Hop g marks next t z
hop_in g marks row next t z h same held = record {
  some = h.some;
  less = h.less;
  kind = ⊎_elim
      (λ k. inl (record { task = k.task; inside = k.inside; holds = same ∙ k.holds; takes = k.takes; edge = k.edge }))
      (λ k. inr (⊎_elim
      (λ d. inl (record { task = d.task; pool = d.pool; inside = d.inside; low = d.low; free = λ q o. let (r, e) = held d.task q d.pool d.takes o in d.free r e; takes = d.takes; edge = d.edge }))
      (λ e. inr (⊎_elim (λ i. inl i) (λ p. inr (record { pool = p.pool; near = p.near; loose = λ a o. p.loose a (sym same ∙ o) })) e))
      k))
      h.kind;
}

module _ (g : Shape) (marks : Marking) (old : Row) (start task : ℕ) (few : g.seconds ≤ 16) (t : Trail) (late : (z : ℕ) → 0 < depth_of t z → start ≤ z) where
  module _ (row : Row) (x : ℕ) (w : Walk g marks old start task t row x) (ne : x ≡ start → ⊥) where
    pub walk_hop : Hop g marks row t x
    walk_hop = w.tree x w.some (omega arith) ne

    -- what comes into x
    enters : (e : ℕ) → by_of t x ≡ Some e → x < 16 → (e < g.firsts) × (x < g.seconds) × (g.joined e x ≡ true) × ((e ≡ task → ⊥) × (((q : ℕ) → (q ≡ via_of t x → ⊥) → at row q ≡ Some e → ⊥) × ((at row (via_of t x) ≡ Some e) ⊎ (via_of t x ≡ 16))))
    enters e o near = ⊎_elim
        (λ k. let z : k.task ≡ e = one_value (by_of t x) k.task e k.takes o in
        let held : at row (via_of t x) ≡ Some e = k.holds ∙ ap Some z in
        ((w.edges (via_of t x) e held).0, k.inside, ap (λ a. g.joined a x) (sym z) ∙ k.edge, ((λ b. w.away (via_of t x) (held ∙ ap Some b)), ((λ q nq r. nq (w.apart q (via_of t x) e r held)), inl held))))
        (λ k. ⊎_elim
        (λ d. let z : d.task ≡ e = one_value (by_of t x) d.task e d.takes o in
        (subst (λ a. a < g.firsts) z d.low, d.inside, ap (λ a. g.joined a x) (sym z) ∙ d.edge, ((λ b. w.other x e w.some (omega arith) ne d.pool o b), ((λ q nq r. d.free q (r ∙ ap Some (sym z))), inr d.pool))))
        (λ k. ⊎_elim
        (λ i. absurd (clash (by_of t x) e i.takes o))
        (λ p. let z : x ≡ 16 = p.pool in absurd (omega arith))
        k)
        k)
        walk_hop.kind

    -- what y had and is urgent goes to x
    leaves : (a : ℕ) → at row (via_of t x) ≡ Some a → marks.urgent a ≡ true → (x < 16) × (by_of t x ≡ Some a)
    leaves a o u = ⊎_elim
        (λ k. (omega (arith, k.inside), k.takes ∙ ap Some (one_value (at row (via_of t x)) k.task a k.holds o)))
        (λ k. ⊎_elim
        (λ d. absurd (clash (at row (via_of t x)) a (past row w.wide (via_of t x) (omega (arith, d.pool))) o))
        (λ k. ⊎_elim
        (λ i. absurd (clash (at row (via_of t x)) a (past row w.wide (via_of t x) (omega (arith, i.pool))) o))
        (λ p. absurd (both_ways (marks.urgent a) (p.loose a o) u))
        k)
        k)
        walk_hop.kind

    -- a full x takes something
    fills : x < g.seconds → marks.full x ≡ true → (a : ℕ) × (by_of t x ≡ Some a)
    fills l u = ⊎_elim
        (λ k. (k.task, k.takes))
        (λ k. ⊎_elim
        (λ d. (d.task, d.takes))
        (λ k. ⊎_elim
        (λ i. absurd (both_ways (marks.full x) i.slack u))
        (λ p. let z : x ≡ 16 = p.pool in absurd (omega arith))
        k)
        k)
        walk_hop.kind

    module _ (next : Row) (s : Shifted row x (via_of t x) (by_of t x) next) where
      came : (q e : ℕ) → at next q ≡ Some e → ((q ≡ x) × (x < 16) × (by_of t x ≡ Some e)) ⊎ ((q ≡ x → ⊥) × (q ≡ via_of t x → ⊥) × (at row q ≡ Some e))
      came q e o = ⊎_elim
          (λ z. let o' : at next x ≡ Some e = ap (at next) (sym z) ∙ o in
          ⊎_elim (λ l. inl (z, l, sym (s.here l) ∙ o')) (λ l. absurd (clash (at next x) e (past next s.wide x l) o')) (cases_lt x 16))
          (λ nx. let ny : q ≡ via_of t x → ⊥ = λ z. clash (at next (via_of t x)) e s.there (ap (at next) (sym z) ∙ o) in
          inr (nx, ny, sym (s.else' q nx ny) ∙ o))
          (cases_eq q x)

      stays : (q a : ℕ) → at row q ≡ Some a → (q ≡ via_of t x → ⊥) → at next q ≡ Some a
      stays q a o ny = s.else' q (λ z. clash (at row q) a (ap (at row) z ∙ w.hole) o) ny ∙ o

      pub walk_on : Walk g marks old start task t next (via_of t x)
      walk_on = record {
        wide = s.wide;
        edges = λ q a o. ⊎_elim
            (λ (z, l, b). let (i, j, k, _) = enters a b l in (i, omega arith, ap (g.joined a) z ∙ k))
            (λ (nx, ny, r). w.edges q a r)
            (came q a o);
        apart = λ q r a o m. ⊎_elim
            (λ (z, l, b). ⊎_elim (λ (z', _, _). z ∙ sym z') (λ (_, ny, e). absurd ((enters a b l).3.1.0 r ny e)) (came r a m))
            (λ (nx, ny, e). ⊎_elim (λ (_, l, b). absurd ((enters a b l).3.1.0 q ny e)) (λ (_, _, e'). w.apart q r a e e') (came r a m))
            (came q a o);
        away = λ q o. ⊎_elim
            (λ (z, l, b). (enters task b l).3.0 refl)
            (λ (nx, ny, e). w.away q e)
            (came q task o);
        hole = s.there;
        tasks = λ a l u na. let (q, o) = w.tasks a l u na in ⊎_elim
            (λ z. let (near, b) = leaves a (ap (at row) (sym z) ∙ o) u in (x, s.here near ∙ b))
            (λ ny. (q, stays q a o ny))
            (cases_eq q (via_of t x));
        processors = λ q l u ny. ⊎_elim
            (λ z. let (a, b) = fills (omega arith) (ap marks.full (sym z) ∙ u) in (a, ap (at next) z ∙ s.here (omega arith) ∙ b))
            (λ nx. let (a, o) = w.processors q l u nx in (a, stays q a o ny))
            (cases_eq q x);
        same = λ q l. s.else' q (λ z. omega (arith, late x w.some)) (λ z. omega (arith, late (via_of t x) walk_hop.some)) ∙ w.same q l;
        some = walk_hop.some;
        tree = λ z pos low nz.
            let h = w.tree z pos (omega (arith, walk_hop.less)) nz in
            let less = h.less in
            let short = walk_hop.less in
            hop_in g marks row next t z h
            (s.else' (via_of t z) (λ e. omega (arith, ap (depth_of t) e)) (λ e. omega (arith, ap (depth_of t) e)))
            (λ a q pool b o. ⊎_elim
            (λ (_, l, b'). ⊎_elim
            (λ held. (via_of t x, held))
            (λ e. absurd (omega (arith, ap (depth_of t) (pool ∙ sym e))))
            (enters a b' l).3.1.1)
            (λ (_, _, e). (q, e))
            (came q a o));
        other = λ z a pos low. w.other z a pos (omega (arith, walk_hop.less));
      }

    -- the same, by what is written down of x
    pub walk_step : (r : Reach) → reach_at t x ≡ Some r → (next : Row) → Shifted row x r.via r.by next → Walk g marks old start task t next r.via
    walk_step r is next s = subst (λ y. Walk g marks old start task t next y) (ap reach_via is) (walk_on next (subst (λ (o : Option Reach). Shifted row x (reach_via o) (reach_by o) next) (sym is) s))

  -- the task is taken from where it lies
  module _ (s : Serving g marks.urgent marks.full (at old)) (wide : length old ≡ 16) (tree : Tree g marks old start t 18) (all : (z : ℕ) → depth_of t z ≤ 18) where
    pub walk_held : (x : ℕ) → at old x ≡ Some task → 0 < depth_of t x → Walk g marks old start task t (set old x None) x
    walk_held x held some = record {
      wide = length-set old x None ∙ wide;
      edges = λ q a o. s.edges q a (from q a o).1;
      apart = λ q r a o m. s.apart q r a (from q a o).1 (from r a m).1;
      away = λ q o. let (nq, e) = from q task o in nq (s.apart q x task e held);
      hole = here;
      tasks = λ a l u na. let (q, o) = s.tasks a l u in (q, else' q (λ z. na (one_value (at old x) a task (ap (at old) (sym z) ∙ o) held)) ∙ o);
      processors = λ q l u nx. let (a, o) = s.processors q l u in (a, else' q nx ∙ o);
      same = λ q l. else' q (λ z. omega (arith, late x some));
      some = some;
      tree = λ z pos low nz. let h = tree z pos (all z) nz in
          let less = h.less in
          hop_in g marks old (set old x None) t z h (else' (via_of t z) (λ e. omega (arith, ap (depth_of t) e))) (λ a q _ _ o. (q, (from q a o).1));
      other = λ z a pos low nz v b e. unheld z a (tree z pos (all z) nz).kind v b e;
    }
      where
        here : at (set old x None) x ≡ None
        here = ⊎_elim (λ l. get_or-set_same old x None None l) (λ l. past (set old x None) (length-set old x None ∙ wide) x (omega arith)) (cases_lt x (length old))

        else' : (q : ℕ) → (q ≡ x → ⊥) → at (set old x None) q ≡ at old q
        else' q nq = get_or-set_other old x q None None nq

        from : (q a : ℕ) → at (set old x None) q ≡ Some a → (q ≡ x → ⊥) × (at old q ≡ Some a)
        from q a o = let nq : q ≡ x → ⊥ = λ z. clash (at (set old x None) x) a here (ap (at (set old x None)) (sym z) ∙ o) in (nq, sym (else' q nq) ∙ o)

        unheld : (z a : ℕ) → Kind g marks old z (via_of t z) (by_of t z) → via_of t z ≡ 16 → by_of t z ≡ Some a → a ≡ task → ⊥
        unheld z a kind v b e = ⊎_elim
            (λ k. clash (at old (via_of t z)) k.task (past old wide (via_of t z) (omega arith)) k.holds)
            (λ k. ⊎_elim
            (λ d. d.free x (held ∙ ap Some (sym e ∙ one_value (by_of t z) a d.task b d.takes)))
            (λ k. ⊎_elim
            (λ i. clash (by_of t z) a i.takes b)
            (λ p. omega (arith, p.near))
            k)
            k)
            kind

    pub walk_free : (n : ℕ) → n ≡ 16 → ((q : ℕ) → at old q ≡ Some task → ⊥) → 0 < depth_of t n → Walk g marks old start task t old n
    walk_free n pool free some = record {
      wide = wide;
      edges = s.edges;
      apart = s.apart;
      away = free;
      hole = past old wide n (omega arith);
      tasks = λ a l u na. s.tasks a l u;
      processors = λ q l u nx. s.processors q l u;
      same = λ q l. refl;
      some = some;
      tree = λ z pos low nz. tree z pos (all z) nz;
      other = λ z a pos low nz v b e. let h = (tree z pos (all z) nz).less in omega (arith, ap (depth_of t) (v ∙ sym pool));
    }

  -- the start takes the task
  pub walk_ends : (row : Row) → Walk g marks old start task t row start → task < g.firsts → start < g.seconds → g.joined task start ≡ true → Serving g marks.urgent marks.full (at (set row start (Some task)))
  walk_ends row w low inside edge = record {
    edges = λ q a o. ⊎_elim
        (λ (z, e). (subst (λ y. y < g.firsts) (sym e) low, subst (λ y. y < g.seconds) (sym z) inside, ap (λ y. g.joined y q) e ∙ ap (g.joined task) z ∙ edge))
        (λ (nq, e). w.edges q a e)
        (fill_from row start fits task q a o);
    apart = λ q r a o m. ⊎_elim
        (λ (z, e). ⊎_elim (λ (z', _). z ∙ sym z') (λ (_, k). absurd (w.away r (k ∙ ap Some e))) (fill_from row start fits task r a m))
        (λ (_, k). ⊎_elim (λ (_, e). absurd (w.away q (k ∙ ap Some e))) (λ (_, k'). w.apart q r a k k') (fill_from row start fits task r a m))
        (fill_from row start fits task q a o);
    tasks = λ a l u. ⊎_elim
        (λ z. (start, fill_here row start fits task ∙ ap Some (sym z)))
        (λ na. let (q, o) = w.tasks a l u na in (q, fill_else row start fits task q (λ z. clash (at row q) a (ap (at row) z ∙ w.hole) o) ∙ o))
        (cases_eq a task);
    processors = λ q l u. ⊎_elim
        (λ z. (task, ap (at (set row start (Some task))) z ∙ fill_here row start fits task))
        (λ nq. let (a, o) = w.processors q l u nq in (a, fill_else row start fits task q nq ∙ o))
        (cases_eq q start);
  }
    where
      fits : start < length row
      fits = omega (arith, w.wide)

-- where a task lies, by its holder
pub lies_near : (row holder : Row) (task : ℕ) → length row ≡ 16 → Flipped 64 row holder → node (at holder task) ≤ 16
lies_near row holder task wide h = by_entry (at holder task) refl
  where
    by_entry : (o : Option ℕ) → at holder task ≡ o → node o ≤ 16
    by_entry None e = omega arith
    by_entry (Some q) e = ⊎_elim (λ l. omega arith) (λ l. absurd (clash (at row q) task (past row wide q l) (h.again q task e))) (cases_lt q 16)

pub lies_held : (row holder : Row) (task n : ℕ) → Flipped 64 row holder → n ≡ node (at holder task) → n < 16 → at row n ≡ Some task
lies_held row holder task n h is l = by_entry (at holder task) refl
  where
    by_entry : (o : Option ℕ) → at holder task ≡ o → at row n ≡ Some task
    by_entry None e = absurd (omega (arith, is ∙ ap node e))
    by_entry (Some q) e = ap (at row) (is ∙ ap node e) ∙ h.again q task e

pub lies_free : (row holder : Row) (task n : ℕ) → length row ≡ 16 → Flipped 64 row holder → n ≡ node (at holder task) → 16 ≤ n → (n ≡ 16) × ((q : ℕ) → at row q ≡ Some task → ⊥)
lies_free row holder task n wide h is l = by_entry (at holder task) refl
  where
    by_entry : (o : Option ℕ) → at holder task ≡ o → (n ≡ 16) × ((q : ℕ) → at row q ≡ Some task → ⊥)
    by_entry None e = (is ∙ ap node e, λ q o. clash (at holder task) q e (h.forth q task o))
    by_entry (Some q) e = let z : n ≡ q = is ∙ ap node e in absurd (clash (at row q) task (past row wide q (omega arith)) (h.again q task e))
