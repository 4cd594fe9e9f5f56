-- What the conditions of this crate say of a log.
use Rattle.std.specs.Prelude.{◌≡◌, ◌≢◌, ℕ, slice_get, Some}
use Rattle.buck_apt_instruction.specs.Instruction.{AssortmentParts}
use Rattle.buck_stem_shape.specs.Stem.{StemParts}
use Rattle.buck_value.specs.declared.log.Log.{Log}
use Rattle.buck_value.specs.Sheet.{SheetParts, price_of}
use Rattle.buck_value.specs.Volume.{volume, worth_at}
use Rattle.buck_value.specs.Allowed.{row_at, top_diameter, class_of, kind_in}

-- the log's assortment, if there is one, is such
abbrev pub ItsAssortment : SheetParts → Log → (AssortmentParts → Type 0) → Type 0
ItsAssortment sheet log Such =
    (a : AssortmentParts) → slice_get sheet.instruction.assortments log.assortment ≡ Some a → Such a

-- two diameters of a log of an assortment are of different rows
abbrev pub AreOfTwoRows : AssortmentParts → ℕ → ℕ → Type 0
AreOfTwoRows a one two = row_at a one ≢ row_at a two

-- what a log would be worth if it were of another length
abbrev pub worth_with_length : SheetParts → StemParts → Log → ℕ → ℕ
worth_with_length sheet stem log long =
    worth_at
    (kind_in (slice_get sheet.instruction.assortments log.assortment))
    (price_of sheet (class_of sheet.instruction stem log))
    (volume (top_diameter stem log) long)
