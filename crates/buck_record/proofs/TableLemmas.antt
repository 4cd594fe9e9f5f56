-- Groups of items, one after the other.
use Rattle.std.proofs.Common.{◌≡◌, ℕ, suc, ◌+◌, ◌<◌, ◌≤◌, Bool, true, false, not, length-take-le, List, [], ◌∷◌, ◌++◌, Some, None, length, take, drop, get_or, refl, ◌∙◌, arith, inl, inr, append_assoc}
use Rattle.std.specs.Prelude.{position}
use Rattle.std.specs.List.{before_first, position_or_len}
use Rattle.std.proofs.lemmas.List.{drop_all, drop_more, append-nil}
use Rattle.std.proofs.lemmas.List.Sums.{prefix_len-le-length}
use Rattle.std.proofs.lemmas.Bool.{cases_lt, cond-true, lt-ltb}
use Rattle.buck_record.proofs.CheckLemmas.{here}
use Rattle.buck_record.proofs.WordLemmas.{bounded}
use Rattle.buck_record.specs.Item.{ItemParts}
use Rattle.buck_record.specs.declared.slot.Slot.{Slot}
use Rattle.buck_record.specs.checking.Table.{is_at}
unfoldable use Rattle.buck_record.specs.checking.Table.{groups_of}

module _ {X : Type 0} (p : X → Bool) (xs : List X) where
  pub place-none : position p xs ≡ None → position_or_len p xs ≡ length xs
  place-none e = elim (cases_lt (position_or_len p xs) (length xs)) [
    | inl lt ↦ let s : position p xs ≡ Some (position_or_len p xs) = cond-true _ _ _ (lt-ltb _ _ lt) in cc
    | inr le ↦ omega (arith, prefix_len-le-length (λ x. not (p x)) xs)
  ]

-- a group that begins at place i
pub goes_on : (slot : Slot) (items : List ItemParts) (i : ℕ) (x : ItemParts) (before whole : List (List ItemParts))
    (group : List ItemParts) → i < length items → x ≡ get_or items i x → is_at slot x ≡ true
    → group ≡ take (1 + length (before_first (is_at slot) (drop (i + 1) items))) (drop i items)
    → before ++ groups_of slot (drop i items) ≡ whole
    → (before ++ group ∷ []) ++ groups_of slot (drop (i + 1) items) ≡ whole
unfolding groups_of
goes_on slot items i x before whole group lt is h g e =
    let rest = drop (i + 1) items in
    let n : 1 + length (before_first (is_at slot) rest) ≡ suc (position_or_len (is_at slot) rest) =
    omega (arith, length-take-le (position_or_len (is_at slot) rest) rest (bounded (is_at slot) rest)) in
    let first : group ≡ x ∷ before_first (is_at slot) rest = g ∙ rw (n, here items i x lt is) refl in
    rw first (simp append_assoc (rw (here items i x lt is, h) at e))

pub passes_by : (slot : Slot) (items : List ItemParts) (i : ℕ) (x : ItemParts) (before whole : List (List ItemParts))
    → i < length items → x ≡ get_or items i x → is_at slot x ≡ false → before ++ groups_of slot (drop i items) ≡ whole
    → before ++ groups_of slot (drop (i + 1) items) ≡ whole
unfolding groups_of
passes_by slot items i x before whole lt is h e = rw (drop_more items i x lt, ← is, h) at e

pub groups-end : (slot : Slot) (items : List ItemParts) (i : ℕ) (before whole : List (List ItemParts))
    → length items ≤ i → before ++ groups_of slot (drop i items) ≡ whole → before ≡ whole
unfolding groups_of
groups-end slot items i before whole le e = rw (drop_all i items le, append-nil before) at e
