-- Items by number and kind, and groups of items.
use Rattle.std.specs.Prelude.{ℕ, Bool, ◌&&◌, ◌==◌, List, [], ◌∷◌, filter, nat_lt, Option, Result, Ok, Err, count_by, find, if◌then◌else◌}
use Rattle.std.specs.List.{before_first, list_any}
use Rattle.std.specs.Option.{option_map_or}
use Rattle.buck_record.specs.Item.{ItemParts}
use Rattle.buck_record.specs.declared.slot.Slot.{Slot}

-- the item has the slot's number and kind
abbrev pub is_at : Slot → ItemParts → Bool
is_at slot item = item.number == slot.number && item.kind == slot.kind

-- the item stands in one of the slots
abbrev pub is_in : List Slot → ItemParts → Bool
is_in slots item = list_any (λ slot. is_at slot item) slots

-- the items in one of the slots, of those that were read
abbrev pub only_in : List Slot → Result (List ItemParts) ℕ → Result (List ItemParts) ℕ
only_in slots (Ok items) = Ok (filter (is_in slots) items)
only_in slots (Err place) = Err place

-- how many items stand in a slot
abbrev pub count_in : Slot → List ItemParts → ℕ
count_in slot items = count_by (is_at slot) items

-- the rest of the first item in a slot, or nothing
unfoldable pub rest_in : Slot → List ItemParts → List ℕ
rest_in slot items = option_map_or (λ item. item.rest) (find (is_at slot) items) []

-- the first of the slots with no item
abbrev pub first_missing : List Slot → List ItemParts → Option Slot
first_missing slots items = find (λ slot. count_in slot items == 0) slots

-- the first of the slots with more than one item
abbrev pub first_twice : List Slot → List ItemParts → Option Slot
first_twice slots items = find (λ slot. nat_lt 1 (count_in slot items)) slots

-- each item in the slot, with the items after it up to the next in the slot
unfoldable pub groups_of : Slot → List ItemParts → List (List ItemParts)
groups_of slot [] = []
groups_of slot (item ∷ items) =
    if is_at slot item then (item ∷ before_first (is_at slot) items) ∷ groups_of slot items else groups_of slot items
