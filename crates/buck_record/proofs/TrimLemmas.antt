-- The rest of an item that was read is trimmed.
use Rattle.std.proofs.Common.{◌≡◌, ℕ, ◌+◌, List, [], ◌∷◌, Option, Some, None, IfSome, IfOk, Result, Ok, Err, take, filter, refl, inl, inr}
use Rattle.std.specs.Prelude.{option_and_then}
use Rattle.std.specs.List.{AllByRecursion, position_or_len}
use Rattle.std.proofs.lemmas.Bool.{cases_Bool}
use Rattle.buck_record.specs.Item.{ItemParts}
use Rattle.buck_record.specs.declared.slot.Slot.{Slot}
use Rattle.buck_record.specs.bytes.White.{trim, first_word, after_word}
unfoldable use Rattle.buck_record.specs.bytes.White.{trim_start, trim_end}
use Rattle.buck_record.specs.Reading.{put_front, with_fault}
unfoldable use Rattle.buck_record.specs.Reading.{each_from}
unfoldable use Rattle.buck_record.specs.bytes.Record.{item_of, items_of}
use Rattle.buck_record.specs.bytes.Record.{number_at_most, pieces}
use Rattle.buck_record.specs.checking.Table.{is_at, is_in, only_in}
unfoldable use Rattle.buck_record.specs.checking.Table.{rest_in, groups_of}
use Rattle.std.proofs.lemmas.List.Elements.{recursion_from_All, All-from_recursion, All-take, All-filter}
use Rattle.buck_record.proofs.WhiteLemmas.{trim_again}

-- items of which each rest is trimmed, as readers have them
abbrev pub IsBare : ItemParts → Type 0
IsBare item = trim item.rest ≡ item.rest

abbrev pub AreBare : List ItemParts → Type 0
AreBare items = AllByRecursion IsBare items

of_parts : (o p : Option ℕ) (r : List ℕ) → IfSome
    (option_and_then (λ n. option_and_then (λ k. Some (record { number = n; kind = k; rest = trim r })) p) o) IsBare
of_parts None p r = tt
of_parts (Some n) None r = tt
of_parts (Some n) (Some k) r = trim_again r

item_bare : (piece : List ℕ) → IfSome (item_of piece) IsBare
unfolding item_of
item_bare piece =
    of_parts (number_at_most 65535 (first_word piece)) (number_at_most 65535 (first_word (trim (after_word piece))))
    (after_word (trim (after_word piece)))

put_bare : (o : Option ItemParts) (k : ℕ) (r : Result (List ItemParts) ℕ) → IfSome o IsBare → IfOk r AreBare
    → IfOk (put_front o k r) AreBare
put_bare None k r x more = tt
put_bare (Some item) k (Err e) x more = tt
put_bare (Some item) k (Ok items) x more = (x, more)

each_bare : (k : ℕ) (ps : List (List ℕ)) → IfOk (each_from item_of k ps) AreBare
unfolding each_from
each_bare k [] = tt
each_bare k (p ∷ ps) = put_bare (item_of p) k (each_from item_of (k + 1) ps) (item_bare p) (each_bare (k + 1) ps)

of_read : {E : Type 0} (fault : ℕ → E) (slots : List Slot) (read : Result (List ItemParts) ℕ) → IfOk read AreBare
    → IfOk (with_fault fault (only_in slots read)) AreBare
of_read fault slots (Err place) bare = tt
of_read fault slots (Ok items) bare =
    recursion_from_All IsBare (filter (is_in slots) items)
    (All-filter (is_in slots) IsBare items (All-from_recursion IsBare items bare))

-- items that were read are trimmed
pub kept_bare : {E : Type 0} (fault : ℕ → E) (slots : List Slot) (bytes : List ℕ) (kept : List ItemParts)
    → with_fault fault (only_in slots (items_of bytes)) ≡ Ok kept → AreBare kept
unfolding items_of
kept_bare fault slots bytes kept h = rw h at (of_read fault slots (items_of bytes) (each_bare 1 (pieces bytes)))

take_bare : (n : ℕ) (items : List ItemParts) → AreBare items → AreBare (take n items)
take_bare n items h =
    recursion_from_All IsBare (take n items) (All-take IsBare n items (All-from_recursion IsBare items h))

pub groups_bare : (s : Slot) (items : List ItemParts) → AreBare items → AllByRecursion AreBare (groups_of s items)
unfolding groups_of
groups_bare s [] h = tt
groups_bare s (x ∷ xs) h =
    elim (cases_Bool (is_at s x)) [
      | inl first ↦ rw first ((h.0, take_bare (position_or_len (is_at s) xs) xs h.1), groups_bare s xs h.1)
      | inr other ↦ rw other (groups_bare s xs h.1)
    ]

pub rest_bare : (s : Slot) (items : List ItemParts) → AreBare items → trim (rest_in s items) ≡ rest_in s items
unfolding rest_in trim_start trim_end
rest_bare s [] h = refl
rest_bare s (x ∷ xs) h =
    elim (cases_Bool (is_at s x)) [
      | inl first ↦ rw first h.0
      | inr other ↦ rw other (rest_bare s xs h.1)
    ]
