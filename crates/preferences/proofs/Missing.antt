-- No cover that agrees so far gives the processor a task that was not reached.
use Rattle.std.proofs.Common.{◌≡◌, ℕ, suc, ◌<◌, ◌≤◌, Bool, true, false, not, ◌&&◌, ◌||◌, eqb, Some, None, Option, sym, refl, ap, ◌∙◌, ⊎_elim, arith}
use Rattle.std.proofs.lemmas.Bool.{cases_eq, cases_lt, cases_Bool, eqb-true, eq-eqb, and_from, and_parts, or_cases, or_left, or_right, not-true, not_from_false, both_ways}
use Rattle.counting.specs.Sums.{count_below}
use Rattle.graphs.specs.Graphs.{Shape, Row, at}
use Rattle.counting.proofs.Counts.{count_without, without, without_other, count_inject}
use Rattle.graphs.specs.Covers.{Marking}
use Rattle.pairings.specs.Servings.{Serving}
use Rattle.pairings.proofs.Rows.{one_value}
use Rattle.pairings.specs.Flips.{Flipped}
use Rattle.preferences.specs.Reach.{node, Closed, Agrees}

abbrev pub some : Option ℕ → Bool
some None = false
some (Some t) = true

pub to_some : (o : Option ℕ) → some o ≡ true → (t : ℕ) × (o ≡ Some t)
to_some None e = absurd (both_ways false refl e)
to_some (Some t) e = (t, refl)

module _ (g : Shape) (marks : Marking) (row holder : Row) (p : ℕ) (in' : ℕ → Bool) (s : Serving g marks.urgent marks.full (at row)) (h : Flipped 64 row holder) (c : Closed g marks row holder p in') (few : g.seconds ≤ 16) (inside : p < g.seconds) (f : ℕ → Option ℕ) (a : Agrees g marks row p f) (t : ℕ) (o : f p ≡ Some t) where
  abbrev lies : ℕ → Bool
  lies x = in' (node (at holder x))

  lies_held : (q x : ℕ) → at row q ≡ Some x → lies x ≡ in' q
  lies_held q x k = ap (λ y. in' (node y)) (h.forth q x k)

  low : (q x : ℕ) → at row q ≡ Some x → (x < g.firsts) × (q < 16)
  low q x k = let (l, m, _) = s.edges q x k in (l, omega arith)

  -- with the pool reached: the processors outside, and p, have too few tasks outside
  with_pool : in' 16 ≡ true → lies t ≡ false → ⊥
  with_pool pool miss = omega (arith, ups, downs, one)
    where
      outer : ℕ → Bool
      outer q = eqb q p || (not (in' q) && some (at row q))

      outside : ℕ → Bool
      outside x = not (lies x)

      up : (q : ℕ) → q < g.seconds → outer q ≡ true → (x : ℕ) × (x < g.firsts) × (outside x ≡ true) × (f q ≡ Some x)
      up q l e = ⊎_elim
          (λ z. let z' : q ≡ p = eqb-true q p z in (t, (a.serving.edges p t o).0, not_from_false (lies t) miss, ap f z' ∙ o))
          (λ z. let (n, m) = and_parts (not (in' q)) (some (at row q)) z in
          let out : in' q ≡ false = not-true (in' q) n in
          let (y, k) = to_some (at row q) m in
          far q l out y k)
          (or_cases (eqb q p) _ e)
        where
          far : (q : ℕ) → q < g.seconds → in' q ≡ false → (y : ℕ) → at row q ≡ Some y → (x : ℕ) × (x < g.firsts) × (outside x ≡ true) × (f q ≡ Some x)
          far q l out y k = ⊎_elim
              (λ lt. (y, (low q y k).0, not_from_false (lies y) (lies_held q y k ∙ out), sym (a.same q lt) ∙ k))
              (λ ge. ⊎_elim
              (λ z. absurd (both_ways (in' q) out (ap in' z ∙ c.start)))
              (λ ne. ⊎_elim
              (λ full. let (x, w) = a.serving.processors q l full in
              let (lx, _, j) = a.serving.edges q x w in
              ⊎_elim
              (λ in_x. absurd (both_ways (in' q) out (c.onward x q lx (omega arith) l j in_x)))
              (λ out_x. (x, lx, not_from_false (lies x) out_x, w))
              (cases_Bool (lies x)))
              (λ slack. absurd (both_ways (in' q) out (c.slack q y pool (omega arith) l k slack)))
              (cases_Bool (marks.full q)))
              (cases_eq q p))
              (cases_lt q p)

      down : (x : ℕ) → x < g.firsts → outside x ≡ true → (q : ℕ) × (q < g.seconds) × (without outer p q ≡ true) × (at row q ≡ Some x)
      down x l e = at_node (at holder x) refl
        where
          out : lies x ≡ false
          out = not-true (lies x) e

          at_node : (u : Option ℕ) → at holder x ≡ u → (q : ℕ) × (q < g.seconds) × (without outer p q ≡ true) × (at row q ≡ Some x)
          at_node None z = absurd (both_ways (lies x) out (ap (λ y. in' (node y)) z ∙ pool))
          at_node (Some q) z =
              let k : at row q ≡ Some x = h.again q x z in
              let off : in' q ≡ false = sym (lies_held q x k) ∙ out in
              let held : some (at row q) ≡ true = ap some k in
              let ne : q ≡ p → ⊥ = λ w. both_ways (in' q) off (ap in' w ∙ c.start) in
              (q, (s.edges q x k).1, sym (without_other outer p q ne) ∙ or_right (eqb q p) _ (and_from (not (in' q)) _ (not_from_false (in' q) off) held), k)

      ups : count_below g.seconds outer ≤ count_below g.firsts outside
      ups = count_inject (λ q x. f q ≡ Some x) g.seconds g.firsts outer outside up (λ i j x. a.serving.apart i j x)

      downs : count_below g.firsts outside ≤ count_below g.seconds (without outer p)
      downs = count_inject (λ x q. at row q ≡ Some x) g.firsts g.seconds outside (without outer p) down (λ i j q. one_value (at row q) i j)

      one : count_below g.seconds outer ≡ suc (count_below g.seconds (without outer p))
      one = count_without g.seconds outer p inside (or_left (eqb p p) _ (eq-eqb p p refl))

  -- without it: the tasks inside have too few processors inside
  without_pool : in' 16 ≡ false → lies t ≡ false → ⊥
  without_pool off miss = omega (arith, ups, downs, one)
    where
      up : (q : ℕ) → q < g.seconds → in' q ≡ true → (x : ℕ) × (x < g.firsts) × (lies x ≡ true) × (at row q ≡ Some x)
      up q l e = entry (at row q) refl
        where
          entry : (u : Option ℕ) → at row q ≡ u → (x : ℕ) × (x < g.firsts) × (lies x ≡ true) × (at row q ≡ Some x)
          entry None z = absurd (both_ways (in' 16) off (c.idle q (omega arith) e z))
          entry (Some x) z = (x, (low q x z).0, lies_held q x z ∙ e, z)

      down : (x : ℕ) → x < g.firsts → lies x ≡ true → (r : ℕ) × (r < g.seconds) × (without in' p r ≡ true) × (f r ≡ Some x)
      down x l e = at_node (at holder x) refl
        where
          at_node : (u : Option ℕ) → at holder x ≡ u → (r : ℕ) × (r < g.seconds) × (without in' p r ≡ true) × (f r ≡ Some x)
          at_node None z = absurd (both_ways (in' 16) off (sym (ap (λ y. in' (node y)) z) ∙ e))
          at_node (Some q) z =
              let k : at row q ≡ Some x = h.again q x z in
              let on : in' q ≡ true = sym (lies_held q x k) ∙ e in
              ⊎_elim
              (λ u. let (r, w) = a.serving.tasks x l u in
              let (_, lr, j) = a.serving.edges r x w in
              ⊎_elim
              (λ y. absurd (both_ways (lies t) miss (ap lies (one_value (f p) t x o (ap f (sym y) ∙ w)) ∙ e)))
              (λ ne. ⊎_elim
              (λ lt. let y : r ≡ q = s.apart r q x (a.same r lt ∙ w) k in absurd (both_ways (in' r) (c.later r lt) (ap in' y ∙ on)))
              (λ ge. (r, lr, sym (without_other in' p r ne) ∙ c.onward x r l (omega arith) lr j e, w))
              (cases_lt r p))
              (cases_eq r p))
              (λ n. absurd (both_ways (in' 16) off (c.loose q x (low q x k).1 on k n)))
              (cases_Bool (marks.urgent x))

      ups : count_below g.seconds in' ≤ count_below g.firsts lies
      ups = count_inject (λ q x. at row q ≡ Some x) g.seconds g.firsts in' lies up (λ i j x. s.apart i j x)

      downs : count_below g.firsts lies ≤ count_below g.seconds (without in' p)
      downs = count_inject (λ x r. f r ≡ Some x) g.firsts g.seconds lies (without in' p) down (λ i j r. one_value (f r) i j)

      one : count_below g.seconds in' ≡ suc (count_below g.seconds (without in' p))
      one = count_without g.seconds in' p inside c.start

  pub reached_task : in' (node (at holder t)) ≡ true
  reached_task = ⊎_elim
      (λ e. e)
      (λ e. absurd (⊎_elim (λ pool. with_pool pool e) (λ off. without_pool off e) (cases_Bool (in' 16))))
      (cases_Bool (lies t))
