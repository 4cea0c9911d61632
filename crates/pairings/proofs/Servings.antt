-- Covers as functions of the processor.
use Rattle.std.proofs.Common.{◌≡◌, ℕ, ◌<◌, ◌≤◌, Bool, true, ◌&&◌, length, Some, None, Option, sym, refl, ◌∙◌, arith}
use Rattle.std.proofs.lemmas.Bool.{and_from}
use Rattle.std.proofs.lemmas.List.{ext_get_or}
use Rattle.counting.specs.Sums.{count_below}
use Rattle.graphs.specs.Graphs.{Shape, Row, at, turned, neighbour}
use Rattle.graphs.specs.Search.{Hopeless}
use Rattle.counting.proofs.Counts.{count_inject, any_from}
use Rattle.graphs.proofs.Hall.{from_T, to_T}
use Rattle.graphs.specs.Covers.{Marking, Cover}
use Rattle.pairings.specs.Servings.{Serving}

module _ (g : Shape) (urgent full : ℕ → Bool) (f : ℕ → Option ℕ) (s : Serving g urgent full f) where
  pub serving_tasks : Hopeless g urgent → ⊥
  serving_tasks (members, deficient) = omega (arith, deficient.fewer, enough)
    where
      partner : (a : ℕ) → a < g.firsts → members a ≡ true → (b : ℕ) × (b < g.seconds) × (neighbour g members b ≡ true) × (f b ≡ Some a)
      partner a l e =
          let (b, o) = s.tasks a l (from_T (urgent a) (deficient.within a l (to_T (members a) e))) in
          let (_, lb, j) = s.edges b a o in
          (b, lb, any_from g.firsts (λ x. members x && g.joined x b) a l (and_from (members a) (g.joined a b) e j), o)

      same : (i j x : ℕ) → f x ≡ Some i → f x ≡ Some j → i ≡ j
      same i j x p q = cc

      enough : count_below g.firsts members ≤ count_below g.seconds (neighbour g members)
      enough = count_inject (λ a b. f b ≡ Some a) g.firsts g.seconds members (neighbour g members) partner same

  pub serving_processors : Hopeless (turned g) full → ⊥
  serving_processors (members, deficient) = omega (arith, deficient.fewer, enough)
    where
      partner : (p : ℕ) → p < g.seconds → members p ≡ true → (t : ℕ) × (t < g.firsts) × (neighbour (turned g) members t ≡ true) × (f p ≡ Some t)
      partner p l e =
          let (t, o) = s.processors p l (from_T (full p) (deficient.within p l (to_T (members p) e))) in
          let (lt, _, j) = s.edges p t o in
          (t, lt, any_from g.seconds (λ x. members x && g.joined t x) p l (and_from (members p) (g.joined t p) e j), o)

      enough : count_below g.seconds members ≤ count_below g.firsts (neighbour (turned g) members)
      enough = count_inject (λ p t. f p ≡ Some t) g.seconds g.firsts members (neighbour (turned g) members) partner (λ p q t. s.apart p q t)

pub cover_serving : (g : Shape) (marks : Marking) (row : Row) → Cover g marks row → Serving g marks.urgent marks.full (at row)
cover_serving g marks row c = record {
  edges = λ p t h. let (a, b, e) = c.edges p t h in (a, b, from_T (g.joined t p) e);
  apart = c.apart;
  tasks = λ t l e. c.tasks t l (to_T (marks.urgent t) e);
  processors = λ p l e. c.processors p l (to_T (marks.full p) e);
}

pub serving_cover : (g : Shape) (marks : Marking) (row : Row) → g.seconds ≤ 16 → length row ≡ 16 → Serving g marks.urgent marks.full (at row) → Cover g marks row
serving_cover g marks row few wide s = record {
  few = few;
  wide = wide;
  edges = λ p t h. let (a, b, e) = s.edges p t h in (a, b, to_T (g.joined t p) e);
  apart = s.apart;
  tasks = λ t l e. s.tasks t l (from_T (marks.urgent t) e);
  processors = λ p l e. s.processors p l (from_T (marks.full p) e);
}

pub nobody : (o : Option ℕ) → ((t : ℕ) → o ≡ Some t → ⊥) → o ≡ None
nobody None h = refl
nobody (Some t) h = absurd (h t refl)

pub same_rows : (a b : Row) → length a ≡ 16 → length b ≡ 16 → ((p : ℕ) → at a p ≡ at b p) → a ≡ b
same_rows a b la lb h = ext_get_or None a b (la ∙ sym lb) (λ i _. h i)
