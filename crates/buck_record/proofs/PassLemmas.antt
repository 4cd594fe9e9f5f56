-- What checks that passed say.
use Rattle.std.proofs.Common.{◌≡◌, ℕ, ◌≤◌, ◌&&◌, Bool, true, false, List, [], ◌∷◌, Result, Ok, Err, All, length, nat_le, refl}
use Rattle.std.specs.List.{AllByRecursion}
use Rattle.std.proofs.lemmas.Bool.{false≢true, leb-true}
use Rattle.std.proofs.lemmas.List.Elements.{All-from_recursion}
use Rattle.std.proofs.lemmas.List.Sums.{AllPass-from_list_all}
use Rattle.buck_record.specs.checking.Check.{◌>>=◌, check, each}
use Rattle.buck_record.specs.declared.slot.Slot.{Slot}
use Rattle.buck_record.specs.checking.Rules.{within, all_within, all_in_range, counted_to}

module _ {E : Type 0} where
  -- a check that passed, and what stands after it
  pub passed : (b : Bool) (e : E) (r : Result (Unit {0}) E) → (check b e >>= λ _. r) ≡ Ok tt → (b ≡ true) × (r ≡ Ok tt)
  passed true e r h = (refl, h)
  passed false e r h = cc

  pub check_ok : (b : Bool) (e : E) → check b e ≡ Ok tt → b ≡ true
  check_ok true e h = refl
  check_ok false e h = cc

  -- checks that passed, one after the other
  pub then_ok : (r q : Result (Unit {0}) E) → (r >>= λ _. q) ≡ Ok tt → (r ≡ Ok tt) × (q ≡ Ok tt)
  then_ok (Ok x) q h = (refl, h)
  then_ok (Err e) q h = cc

  each_rec : {X : Type 0} (f : X → Result (Unit {0}) E) (xs : List X) → each f xs ≡ Ok tt
      → AllByRecursion (λ x. f x ≡ Ok tt) xs
  unfolding each
  each_rec f [] h = tt
  each_rec f (x ∷ xs) h = let p = then_ok (f x) (each f xs) h in (p.0, each_rec f xs p.1)

  -- a check of each element that passed
  pub each_ok : {X : Type 0} (f : X → Result (Unit {0}) E) (xs : List X) → each f xs ≡ Ok tt → All (λ x. f x ≡ Ok tt) xs
  each_ok f xs h = All-from_recursion _ xs (each_rec f xs h)

pub both : (a b : Bool) → (a && b) ≡ true → (a ≡ true) × (b ≡ true)
both true b h = (refl, h)
both false b h = absurd (false≢true h)

pub within_ok : (low high n : ℕ) → within low high n ≡ true → (low ≤ n) × (n ≤ high)
within_ok low high n h = let p = both (nat_le low n) (nat_le n high) h in (leb-true _ _ p.0, leb-true _ _ p.1)

pub all_within_ok : (low high : ℕ) (ns : List ℕ) → all_within low high ns ≡ true → All (λ n. (low ≤ n) × (n ≤ high)) ns
all_within_ok low high ns h = λ k d lt. within_ok low high _ (AllPass-from_list_all (within low high) ns h k d lt)

-- each number is in the range of its item
abbrev pub AreRanged : Slot → List ℕ → Type 0
AreRanged item ns = All (λ n. (item.low ≤ n) × (n ≤ item.high)) ns

module _ {E : Type 0} (fault : ℕ → ℕ → E) where
  -- numbers that are in the range of their item
  pub in_range_ok : (item : Slot) (ns : List ℕ) → all_in_range fault item ns ≡ Ok tt → AreRanged item ns
  in_range_ok item ns h = all_within_ok item.low item.high ns (check_ok _ _ h)

  -- and what stands after them
  pub ranged : (item : Slot) (ns : List ℕ) (r : Result (Unit {0}) E) → (all_in_range fault item ns >>= λ _. r) ≡ Ok tt
      → AreRanged item ns × (r ≡ Ok tt)
  ranged item ns r h = let p = then_ok (all_in_range fault item ns) r h in (in_range_ok item ns p.0, p.1)

  -- numbers of which there are as many as there may be
  pub counted_ok : (s : Slot) (most : ℕ) (ns : List ℕ) → counted_to fault s most ns ≡ Ok tt
      → (1 ≤ length ns) × (length ns ≤ most)
  counted_ok s most ns h = within_ok 1 most (length ns) (check_ok _ _ h)

  -- and what stands after them
  pub counted : (s : Slot) (most : ℕ) (ns : List ℕ) (r : Result (Unit {0}) E)
      → (counted_to fault s most ns >>= λ _. r) ≡ Ok tt
      → ((1 ≤ length ns) × (length ns ≤ most)) × (r ≡ Ok tt)
  counted s most ns r h = let p = then_ok (counted_to fault s most ns) r h in (counted_ok s most ns p.0, p.1)
