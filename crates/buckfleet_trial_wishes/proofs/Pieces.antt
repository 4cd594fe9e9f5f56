-- The pieces of a list that belong to the elements of another, one after the other.
use Rattle.std.proofs.Common.{◌≡◌, ℕ, ◌+◌, ◌<◌, ◌≤◌, List, ◌++◌, length, take, drop, Some, sum_by, ap, subst, ◌∙◌, arith}
use Rattle.std.specs.Prelude.{slice_get}
use Rattle.std.proofs.lemmas.List.{drop-append-le, drop_at, length-drop, length-take-le, take-append-le, take-take, take_all}
use Rattle.std.proofs.lemmas.List.Sums.{sum_by-take-le, sum_by_more}
use Rattle.std.proofs.lemmas.Option.{get_or_from_slice_get, slice_get_within}

module _ {A : Type 0} (f : A → ℕ) (xs : List A) where
  -- what belongs to the elements before a place
  abbrev pub before : ℕ → ℕ
  before k = sum_by f (take k xs)

  -- of a list, what belongs to the element at a place
  abbrev pub piece : A → ℕ → List ℕ → List ℕ
  piece a k ns = take (f a) (drop (before k) ns)

  pub before_next : (k : ℕ) (a : A) → slice_get xs k ≡ Some a → before (k + 1) ≡ before k + f a
  before_next k a there =
      sum_by_more f xs k a (slice_get_within xs k a there)
      ∙ ap (λ x. before k + f x) (get_or_from_slice_get xs k a a there)

  pub before_rises : (k m : ℕ) → k ≤ m → before k ≤ before m
  before_rises k m le =
      subst (λ (l : List A). sum_by f l ≤ before m) (take-take k m xs le) (sum_by-take-le f (take m xs) k)

  -- more behind it changes no piece that is there
  pub piece_kept : (k m : ℕ) (a : A) (ns more : List ℕ) → k < m → slice_get xs k ≡ Some a → length ns ≡ before m
      → piece a k (ns ++ more) ≡ piece a k ns
  piece_kept k m a ns more lt there long =
      let next = before_next k a there in
      let low : before (k + 1) ≤ before m = before_rises (k + 1) m (omega (arith, lt)) in
      ap (take (f a)) (drop-append-le (before k) ns more (omega (arith, next, low, long)))
      ∙ take-append-le (f a) (drop (before k) ns) more
      (omega (arith, next, low, long, length-drop (before k) ns))

  -- the next piece
  pub piece_next : (m : ℕ) (a : A) (ns more : List ℕ) → length ns ≡ before m → length more ≡ f a
      → piece a m (ns ++ more) ≡ more
  piece_next m a ns more long full =
      ap (take (f a)) (drop_at ns more (before m) long) ∙ take_all (f a) more (omega (arith, full))

  pub before_all : before (length xs) ≡ sum_by f xs
  before_all = ap (sum_by f) (take_all (length xs) xs (omega arith))

  pub piece_length : (k : ℕ) (a : A) (ns : List ℕ) → slice_get xs k ≡ Some a → length ns ≡ sum_by f xs
      → length (piece a k ns) ≡ f a
  piece_length k a ns there long =
      let next = before_next k a there in
      let low : before (k + 1) ≤ sum_by f xs = sum_by-take-le f xs (k + 1) in
      length-take-le (f a) (drop (before k) ns) (omega (arith, next, low, long, length-drop (before k) ns))
