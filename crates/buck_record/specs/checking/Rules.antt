-- What the readers of files share: the slots of items, the numbers of an item, and tests of numbers.
use Rattle.std.specs.Prelude.{◌≡◌, ℕ, Bool, true, ◌&&◌, ◌==◌, List, [], ◌∷◌, length, nat_le, nat_lt, Result}
use Rattle.std.specs.List.{before_first, list_all}
use Rattle.buck_record.specs.Item.{ItemParts}
use Rattle.buck_record.specs.declared.slot.Slot.{Slot}
use Rattle.buck_record.specs.Reading.{with_fault}
use Rattle.buck_record.specs.bytes.Record.{numbers_of}
use Rattle.buck_record.specs.checking.Table.{is_at, count_in, rest_in}
use Rattle.buck_record.specs.checking.Check.{check}

-- an item whose numbers may be any, or a text
abbrev pub slot : ℕ → ℕ → Slot
slot number kind = record { number = number; kind = kind; low = 0; high = 4294967295 }

-- the kind of file
abbrev pub file_slot : Slot
file_slot = slot 1 2

-- the fault that names a slot
abbrev pub of_slot : {F : Type 0} → (ℕ → ℕ → F) → Slot → F
of_slot fault s = fault s.number s.kind

-- none of the members stands before the first item in a slot
abbrev pub has_no_strays : Slot → List Slot → List ItemParts → Bool
has_no_strays first members items =
    list_all (λ s. count_in s (before_first (is_at first) items) == 0) members

-- the numbers of an item, none if it is absent; or the fault of the first word that isn't a number
unfoldable pub numbers_in : {E : Type 0} → (ℕ → ℕ → ℕ → E) → Slot → List ItemParts → Result (List ℕ) E
numbers_in fault s items = with_fault (of_slot fault s) (numbers_of (rest_in s items))

-- a closure makes the fault that names an item by its place
abbrev pub NamesItem : {E : Type 0} → (ℕ → E → Type 0) → (ℕ → E) → Type 0
NamesItem {E} post fault = (place : ℕ) (e : E) → post place e → e ≡ fault place

-- the number is from `low` to `high`
abbrev pub within : ℕ → ℕ → ℕ → Bool
within low high n = nat_le low n && nat_le n high

abbrev pub all_within : ℕ → ℕ → List ℕ → Bool
all_within low high ns = list_all (within low high) ns

-- there is one, and there are at most so many
abbrev pub one_to : ℕ → ℕ → Bool
one_to most n = within 1 most n

-- the fault of a slot, if one of its numbers is out of its range
abbrev pub all_in_range : {E : Type 0} → (ℕ → ℕ → E) → Slot → List ℕ → Result (Unit {0}) E
all_in_range fault s ns = check (all_within s.low s.high ns) (of_slot fault s)

-- the fault of a slot, if it has no number or more than so many
abbrev pub counted_to : {E : Type 0} → (ℕ → ℕ → E) → Slot → ℕ → List ℕ → Result (Unit {0}) E
counted_to fault s most ns = check (one_to most (length ns)) (of_slot fault s)

-- each number is below the next
abbrev pub is_rising : List ℕ → Bool
is_rising [] = true
is_rising (n ∷ []) = true
is_rising (m ∷ n ∷ ns) = nat_lt m n && is_rising (n ∷ ns)
