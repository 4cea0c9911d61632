-- The order of the numbers is a preference, and the rule that goes by it.
use Rattle.std.specs.Prelude.{ℕ, ◌<◌, ◌&&◌, T, nat_lt}
use Rattle.std.proofs.Common.{inl, inr, ⊎_elim, arith}
use Rattle.std.proofs.lemmas.Bool.{ltb-true, lt-ltb, and_from, and_parts, cases_lt}
use Rattle.graphs.proofs.Hall.{from_T, to_T}
use Rattle.pairings.specs.Rules.{Rule}
use Rattle.preferences.specs.Preferences.{Order, Preferring, First}

abbrev pub by_number : Order
by_number p had a b = nat_lt a b && nat_lt b 64

-- the first rule by number: it admits the first cover, the lower task first
abbrev pub first_by_number : Rule
first_by_number g marks before row = First by_number g marks before row

reads : (a b : ℕ) → T (nat_lt a b && nat_lt b 64) → (a < b) × (b < 64)
reads a b t = let (x, y) = and_parts (nat_lt a b) (nat_lt b 64) (from_T (nat_lt a b && nat_lt b 64) t) in (ltb-true a b x, ltb-true b 64 y)

writes : (a b : ℕ) → a < b → b < 64 → T (nat_lt a b && nat_lt b 64)
writes a b l m = to_T (nat_lt a b && nat_lt b 64) (and_from (nat_lt a b) (nat_lt b 64) (lt-ltb a b l) (lt-ltb b 64 m))

pub number_preferring : Preferring by_number
number_preferring = record {
  not_itself = λ p had a t. omega (arith, reads a a t);
  one_of_two = λ p had a b la lb ne. ⊎_elim (λ l. inl (writes a b l lb)) (λ l. inr (writes b a (omega arith) la)) (cases_lt a b);
  not_both = λ p had a b t s. omega (arith, reads a b t, reads b a s);
  small = λ p had a b t. let (l, m) = reads a b t in (omega arith, m);
  through = λ p had a b c t s. let (l, m) = reads a b t in let (k, n) = reads b c s in writes a c (omega arith) n;
}
