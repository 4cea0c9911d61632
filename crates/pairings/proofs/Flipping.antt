-- A row read the other way.
use Rattle.std.proofs.Common.{◌≡◌, ℕ, ◌+◌, ◌<◌, ◌≤◌, length, set, replicate, Some, None, Option, ⊎_elim, arith, length-set}
use Rattle.std.proofs.lemmas.Bool.{cases_eq, cases_lt}
use Rattle.std.proofs.lemmas.List.{length-replicate, get_or_past}
use Rattle.graphs.specs.Graphs.{Row, at}
use Rattle.graphs.specs.Rows.{Distinct}
use Rattle.pairings.specs.Flips.{Flipped, HalfFlipped}
use Rattle.pairings.proofs.Rows.{blank, fill_here, fill_else, fill_from}

-- no entry stands past a row's end
pub inside : (row : Row) (p t : ℕ) → at row p ≡ Some t → p < length row
inside row p t h = ⊎_elim (λ l. l) (λ past. cc (get_or_past row p None past, h)) (cases_lt p (length row))

module _ {m : ℕ} {back : Row} where
  pub flip_none : HalfFlipped m back 0 (replicate m None)
  flip_none = record {
    wide = length-replicate {A = Option ℕ} m None;
    forth = λ a b l h. absurd (omega arith);
    again = λ a b h. cc (blank m b, h);
  }

  module _ {k : ℕ} {row : Row} (f : HalfFlipped m back k row) where
    pub flip_skip : at back k ≡ None → HalfFlipped m back (k + 1) row
    flip_skip none = record {
      wide = f.wide;
      forth = λ a b l h. ⊎_elim (λ q. cc) (λ ne. f.forth a b (omega arith) h) (cases_eq a k);
      again = λ a b h. let (l, o) = f.again a b h in (omega arith, o);
    }

    module _ (d : Distinct m back) (b : ℕ) (some : at back k ≡ Some b) where
      pub flip_past : m ≤ b → ⊥
      flip_past past = omega (arith, d.small k b some)

      pub flip_more : HalfFlipped m back (k + 1) (set row b (Some k))
      flip_more = record {
        wide = cc (length-set row b (Some k), f.wide);
        forth = λ a e l h. ⊎_elim
            (λ q. cc (fill_here row b fits k, some, h, q))
            (λ ne. cc (fill_else row b fits k e (λ q. ne (d.apart a k b (cc) some)), f.forth a e (omega arith) h))
            (cases_eq a k);
        again = λ a e h. ⊎_elim
            (λ w. (omega (arith, w.1), cc))
            (λ w. let (l, o) = f.again a e w.1 in (omega arith, o))
            (fill_from row b fits k e a h);
      }
        where
          fits : b < length row
          fits = omega (arith, f.wide, d.small k b some)

    pub flip_all : length back ≤ k → Flipped m back row
    flip_all all = record {
      wide = f.wide;
      forth = λ a b h. f.forth a b (omega (arith, inside back a b h)) h;
      again = λ a b h. (f.again a b h).1;
    }

module _ {m : ℕ} {back row : Row} (f : Flipped m back row) where
  pub flip_below : (a b : ℕ) → at back a ≡ Some b → b < m
  flip_below a b h = omega (arith, f.wide, inside row b a (f.forth a b h))

  pub flip_within : (a b : ℕ) → at row b ≡ Some a → a < length back
  flip_within a b h = inside back a b (f.again a b h)
