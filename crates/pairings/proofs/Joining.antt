-- What the sides keep is a cover.
use Rattle.std.proofs.Common.{◌≡◌, ℕ, ◌<◌, ◌≤◌, Bool, ◌⊎◌, length, Some, None, Option, true, refl, ap, ◌∙◌, inl, inr, ⊎_elim, arith}
use Rattle.std.proofs.lemmas.Bool.{cases_lt}
use Rattle.std.proofs.lemmas.List.{get_or_past}
use Rattle.graphs.specs.Graphs.{Shape, Row, at, turned}
use Rattle.graphs.specs.Rows.{Distinct}
use Rattle.graphs.specs.Search.{Matched}
use Rattle.graphs.specs.Covers.{Marking, Cover}
use Rattle.pairings.specs.Flips.{Flipped}
use Rattle.pairings.specs.declared.walks.Side.{Side}
use Rattle.pairings.specs.declared.walks.Side.TheVariants.{Task, Processor}
use Rattle.pairings.specs.Union.{Sides, side_at, Own, kept, Joint, Shut, EndsOwn}
use Rattle.pairings.proofs.Flipping.{inside, flip_below, flip_within}
use Rattle.pairings.specs.Servings.{Serving}
use Rattle.pairings.proofs.Servings.{nobody, serving_cover}

-- the two matchings of the union, each by processor and by task
pub union_joint : {m : ℕ} {tasks holder own back : Row} → Flipped m tasks holder → Flipped m own back → Joint m (length tasks) own holder
union_joint ft fo = record {
  apart_own = λ p q t h k. cc (fo.forth p t h, fo.forth q t k);
  apart_holder = λ s t p h k. cc (ft.again p s h, ft.again p t k);
  near_task = flip_below fo;
  near_holder = λ t p h. flip_within ft p t h;
}

-- a row that a search found, in as many places as there are nodes
module _ {g : Shape} {marked : ℕ → Bool} {k : ℕ} {found : Row} (f : Matched g marked k found) where
  pub found_below : (n : ℕ) → k ≤ n → (b a : ℕ) → at found b ≡ Some a → a < n
  found_below n l b a h = omega (arith, (f.edges b a h).0)

  module _ (n : ℕ) (row : Row) (wide : length row ≡ n) (few : g.seconds ≤ n) (same : (b : ℕ) → b < n → at row b ≡ at found b) where
    pub found_same : (b : ℕ) → at row b ≡ at found b
    found_same b = ⊎_elim
        (same b)
        (λ l. cc (get_or_past row b None (omega (arith, wide)), nobody (at found b) (λ a h. omega (arith, (f.edges b a h).1))))
        (cases_lt b n)

    pub found_distinct : (m : ℕ) → k ≤ m → Distinct m row
    found_distinct m l = record {
      small = λ b a h. found_below m l b a (cc (found_same b));
      apart = λ b c a h i. f.apart b c a (cc (found_same b)) (cc (found_same c));
    }

pub cases_own : (o : Option Side) → (o ≡ Some Processor) ⊎ (o ≡ Some Processor → ⊥)
cases_own None = inr (λ e. cc)
cases_own (Some Task) = inr (λ e. cc)
cases_own (Some Processor) = inl refl

pub kept_own : (o : Option Side) (a b : Option ℕ) → o ≡ Some Processor → kept o a b ≡ b
kept_own o a b e = ap (λ x. kept x a b) e

pub kept_task : (o : Option Side) (a b : Option ℕ) → (o ≡ Some Processor → ⊥) → kept o a b ≡ a
kept_task None a b h = refl
kept_task (Some Task) a b h = refl
kept_task (Some Processor) a b h = absurd (h refl)

-- what a search found for the tasks and what it found for the processors, as two matchings, and a row of the edges that the sides keep
module _ {g : Shape} {marks : Marking} {found found' : Row} (mt : Matched g marks.urgent g.firsts found) (mo : Matched (turned g) marks.full g.seconds found') {m : ℕ} {tasks holder own back : Row} (ft : Flipped m tasks holder) (fo : Flipped m own back) (same_tasks : (p : ℕ) → at tasks p ≡ at found p) (same_back : (t : ℕ) → at back t ≡ at found' t) where
  edge_of_tasks : (p t : ℕ) → at tasks p ≡ Some t → (t < g.firsts) × (p < g.seconds) × (g.joined t p ≡ true)
  edge_of_tasks p t h = let (a, b, j, _) = mt.edges p t (cc (same_tasks p)) in (a, b, j)

  edge_of_own : (p t : ℕ) → at own p ≡ Some t → (t < g.firsts) × (p < g.seconds) × (g.joined t p ≡ true)
  edge_of_own p t h = let (a, b, j, _) = mo.edges t p (cc (same_back t, fo.forth p t h)) in (b, a, j)

  module _ {n : ℕ} {sides : Sides} (shut : Shut n own holder sides) {k : ℕ} (ends : EndsOwn tasks sides k) (all : g.seconds ≤ k) (few : g.seconds ≤ n) where
    -- no task of a processor that keeps its own is one of a processor that does not
    cross : (p q t : ℕ) → Own sides p → at own p ≡ Some t → (Own sides q → ⊥) → at tasks q ≡ Some t → ⊥
    cross p q t own_p h not_own k = not_own (shut.on p q own_p (t, h, ft.forth q t k))

    module _ (row : Row) (wide : length row ≡ n) (is : (k : ℕ) → k < n → at row k ≡ kept (side_at sides k) (at tasks k) (at own k)) where
      put_task : (p t : ℕ) → (Own sides p → ⊥) → at tasks p ≡ Some t → at row p ≡ Some t
      put_task p t not_own h = is p (omega (arith, (edge_of_tasks p t h).1)) ∙ kept_task (side_at sides p) (at tasks p) (at own p) not_own ∙ h

      keeps_own : (p t : ℕ) → Own sides p → at own p ≡ Some t → at row p ≡ Some t
      keeps_own p t own_p h = is p (omega (arith, (edge_of_own p t h).1)) ∙ kept_own (side_at sides p) (at tasks p) (at own p) own_p ∙ h

      -- an entry is of the one matching or of the other
      put_from : (p t : ℕ) → at row p ≡ Some t → (Own sides p × (at own p ≡ Some t)) ⊎ ((Own sides p → ⊥) × (at tasks p ≡ Some t))
      put_from p t h = let i = is p (omega (arith, wide, inside row p t h)) in ⊎_elim
          (λ own_p. inl (own_p, cc (kept_own (side_at sides p) (at tasks p) (at own p) own_p, i)))
          (λ not_own. inr (not_own, cc (kept_task (side_at sides p) (at tasks p) (at own p) not_own, i)))
          (cases_own (side_at sides p))

      served : (p : ℕ) (x : Option ℕ) → at tasks p ≡ x → p < g.seconds → (Own sides p → ⊥) → (t : ℕ) × (at row p ≡ Some t)
      served p None e l not_own = absurd (not_own (ends p (omega arith) e))
      served p (Some t) e l not_own = (t, put_task p t not_own e)

      pub union_serving : Serving g marks.urgent marks.full (at row)
      union_serving = record {
        edges = λ p t h. ⊎_elim (λ w. edge_of_own p t w.1) (λ w. edge_of_tasks p t w.1) (put_from p t h);
        apart = λ p q t h k. ⊎_elim
            (λ w. ⊎_elim (λ v. cc (fo.forth p t w.1, fo.forth q t v.1)) (λ v. absurd (cross p q t w.0 w.1 v.0 v.1)) (put_from q t k))
            (λ w. ⊎_elim (λ v. absurd (cross q p t v.0 v.1 w.0 w.1)) (λ v. cc (ft.forth p t w.1, ft.forth q t v.1)) (put_from q t k))
            (put_from p t h);
        tasks = λ t l u. let (p, h) = mt.all t l u in let k = same_tasks p ∙ h in ⊎_elim
            (λ own_p. let (r, o, y) = shut.back p t own_p (ft.forth p t k) in (r, keeps_own r t y o))
            (λ not_own. (p, put_task p t not_own k))
            (cases_own (side_at sides p));
        processors = λ p l u. ⊎_elim
            (λ own_p. let (t, h) = mo.all p l u in (t, keeps_own p t own_p (fo.again p t (same_back t ∙ h))))
            (λ not_own. served p (at tasks p) refl l not_own)
            (cases_own (side_at sides p));
      }

      pub union_cover : g.seconds ≤ 16 → length row ≡ 16 → Cover g marks row
      union_cover sixteen short = serving_cover g marks row sixteen short union_serving
