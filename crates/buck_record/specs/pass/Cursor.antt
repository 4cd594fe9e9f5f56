-- The items of a text, one after the other, with no list of them.
use Rattle.std.specs.Prelude.{◌≡◌, ℕ, ◌<◌, List, ◌∷◌, ◌++◌, filter, length, Some, Ok}
use Rattle.buck_record.specs.Item.{ItemParts}
use Rattle.buck_record.specs.declared.slot.Slot.{Slot}
use Rattle.buck_record.specs.Reading.{each_from}
use Rattle.buck_record.specs.bytes.Record.{item_of, pieces}
use Rattle.buck_record.specs.checking.Table.{is_in}

-- the items of a text, wherever its first is counted from
abbrev pub HasItems : List ℕ → List ItemParts → Type 0
HasItems text items = (k : ℕ) → each_from item_of k (pieces text) ≡ Ok items

-- the items of a text that stand in one of the slots
abbrev pub HasItemsIn : List Slot → List ℕ → List ItemParts → Type 0
HasItemsIn slots text items =
    (all : List ItemParts) × HasItems text all × (filter (is_in slots) all ≡ items)

-- the text begins with the item, and `left` has the other pieces
pub record Leads (text : List ℕ) (item : ItemParts) (left : List ℕ) : Type 0 where
  pub piece : List ℕ
  pub first : pieces text ≡ piece ∷ pieces left
  pub head : item_of piece ≡ Some item
  pub shorter : length left < length text

-- the pieces of the text are those of one part and then those of another
abbrev pub Joins : List ℕ → List ℕ → List ℕ → Type 0
Joins text front back = pieces text ≡ pieces front ++ pieces back

-- the item in a slot, with this rest
abbrev pub item_in : Slot → List ℕ → ItemParts
item_in s rest = record { number = s.number; kind = s.kind; rest = rest }
