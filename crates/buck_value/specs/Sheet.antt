-- A price sheet as clauses see it.
use Rattle.std.specs.Prelude.{◌≡◌, ◌≢◌, ℕ, ◌+◌, ◌-◌, ◌*◌, ◌/◌, ◌<◌, ◌≤◌, List, length, slice_index, EachIndex}
use Rattle.std.specs.List.{flat_map}
use Rattle.buck_apt_instruction.specs.declared.class.Class.{Class}
use Rattle.buck_apt_instruction.specs.Instruction.{InstructionParts, IsInstruction, classes, index_of}
use Rattle.buck_value.specs.declared.fault.SheetFault.{SheetFault}
use Rattle.buck_value.specs.declared.fault.SheetFault.TheVariants.{Count, Price}

pub record SheetParts : Type 0 where
  pub version : ℕ
  pub instruction : InstructionParts
  pub prices : List ℕ  -- the price in force of each class, per cubic metre or per piece

-- the sheet of its parts
abbrev pub sheet_of : ℕ → InstructionParts → List ℕ → SheetParts
sheet_of version i prices = record { version = version; instruction = i; prices = prices }

-- the base prices, class by class
abbrev pub base_prices : InstructionParts → List ℕ
base_prices i = flat_map (λ a. a.prices) i.assortments

-- how far a price may lie from its base price, by a limit per mille
abbrev pub span : ℕ → ℕ → ℕ
span limit base = base * limit / 1000

-- the price lies within the span of the base price, both ends included
abbrev pub IsInSpan : ℕ → ℕ → ℕ → Type 0
IsInSpan limit base price = (base - span limit base ≤ price) × (price ≤ base + span limit base)

-- the price at a place lies within the span of the base price there
abbrev pub IsPriceAt : InstructionParts → List ℕ → ℕ → Type 0
IsPriceAt i prices k = IsInSpan i.limit (slice_index (base_prices i) k) (slice_index prices k)

-- one price for each class, each within its span
pub record IsSheet (s : SheetParts) : Type 0 where
  pub valid : IsInstruction s.instruction
  pub one_each : length s.prices ≡ classes s.instruction
  pub in_span : EachIndex s.prices (λ k. IsPriceAt s.instruction s.prices k)

-- why prices are refused: there isn't one for each class, or the least place of a price outside its span
abbrev pub IsSheetFault : InstructionParts → List ℕ → SheetFault → Type 0
IsSheetFault i prices Count = length prices ≢ classes i
IsSheetFault i prices (Price at) =
    (length prices ≡ classes i)
    × (at < length prices)
    × (IsPriceAt i prices at → ⊥)
    × ((k : ℕ) → k < at → IsPriceAt i prices k)

-- the price in force of a class
abbrev pub price_of : SheetParts → Class → ℕ
price_of s c = slice_index s.prices (index_of s.instruction c)
