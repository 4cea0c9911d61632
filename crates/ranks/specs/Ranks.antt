-- Ranks of the tasks.
use Rattle.std.specs.Prelude.{◌≡◌, ℕ, ◌<◌, Bool, true, ◌&&◌, T, List, length, nat_lt, slice_index}
use Rattle.std.proofs.Common.{inl, inr, ⊎_elim, arith}
use Rattle.std.proofs.Math.Logic.{∥∥₁_elim}
use Rattle.std.proofs.Math.Nat.{ℕ_set}
use Rattle.std.proofs.lemmas.Bool.{ltb-true, lt-ltb, and_from, and_parts, cases_order}
use Rattle.graphs.specs.Search.{flag}
use Rattle.graphs.proofs.Hall.{from_T, to_T}
use Rattle.preferences.specs.Preferences.{Order, Preferring}

abbrev pub rank_of : List ℕ → ℕ → ℕ
rank_of ranks t = slice_index ranks t

-- 64 ranks, each below 64 and no two the same
pub record EachOnce (ranks : List ℕ) : Type 0 where
  pub low : (t : ℕ) → t < 64 → rank_of ranks t < 64
  pub apart : (s t : ℕ) → s < 64 → t < 64 → rank_of ranks s ≡ rank_of ranks t → s ≡ t

-- the same of the tasks below k, with a table of the ranks seen
pub record Ranked (ranks : List ℕ) (seen : List Bool) (k : ℕ) : Type 0 where
  pub wide : length seen ≡ 64
  pub low : (t : ℕ) → t < k → rank_of ranks t < 64
  pub apart : (s t : ℕ) → s < k → t < k → rank_of ranks s ≡ rank_of ranks t → s ≡ t
  pub known : (r : ℕ) → flag seen r ≡ true → (t : ℕ) × (t < k) × (rank_of ranks t ≡ r)
  pub marked : (t : ℕ) → t < k → flag seen (rank_of ranks t) ≡ true

abbrev pub by_rank : List ℕ → Order
by_rank ranks p had a b = nat_lt a 64 && (nat_lt b 64 && nat_lt (rank_of ranks a) (rank_of ranks b))

reads : (ranks : List ℕ) (a b : ℕ) → T (nat_lt a 64 && (nat_lt b 64 && nat_lt (rank_of ranks a) (rank_of ranks b))) → (a < 64) × (b < 64) × (rank_of ranks a < rank_of ranks b)
reads ranks a b t =
    let (x, y) = and_parts (nat_lt a 64) (nat_lt b 64 && nat_lt (rank_of ranks a) (rank_of ranks b)) (from_T _ t) in
    let (z, w) = and_parts (nat_lt b 64) (nat_lt (rank_of ranks a) (rank_of ranks b)) y in
    (ltb-true a 64 x, ltb-true b 64 z, ltb-true (rank_of ranks a) (rank_of ranks b) w)

writes : (ranks : List ℕ) (a b : ℕ) → a < 64 → b < 64 → rank_of ranks a < rank_of ranks b → T (nat_lt a 64 && (nat_lt b 64 && nat_lt (rank_of ranks a) (rank_of ranks b)))
writes ranks a b la lb l = to_T _ (and_from (nat_lt a 64) _ (lt-ltb a 64 la) (and_from (nat_lt b 64) _ (lt-ltb b 64 lb) (lt-ltb (rank_of ranks a) (rank_of ranks b) l)))

pub rank_preferring : (ranks : List ℕ) → ∥ EachOnce ranks ∥₁ → Preferring (by_rank ranks)
rank_preferring ranks once = record {
  not_itself = λ p had a t. omega (arith, reads ranks a a t);
  one_of_two = λ p had a b la lb ne. ⊎_elim
      (λ e. absurd (ne (∥∥₁_elim once (ℕ_set a b) (λ o. o.apart a b la lb e))))
      (λ w. ⊎_elim (λ l. inl (writes ranks a b la lb l)) (λ l. inr (writes ranks b a lb la l)) w)
      (cases_order (rank_of ranks a) (rank_of ranks b));
  not_both = λ p had a b t s. omega (arith, reads ranks a b t, reads ranks b a s);
  small = λ p had a b t. let (x, y, _) = reads ranks a b t in (x, y);
  through = λ p had a b c t s. let (x, _, l) = reads ranks a b t in let (_, z, k) = reads ranks b c s in writes ranks a c x z (omega arith);
}
