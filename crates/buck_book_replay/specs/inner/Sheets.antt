-- The sheets of a journal's prices, before it is known whether they are right.
use Rattle.std.specs.Prelude.{◌≡◌, ℕ, ◌<◌, List, length, slice_get, Some}
use Rattle.buck_apt_instruction.specs.Instruction.{InstructionParts}
use Rattle.buck_value.specs.Sheet.{SheetParts}
use Rattle.buck_book_postings.specs.declared.posting.Posting.{Posting}
use Rattle.buck_book_postings.specs.History.{PricesMeet, prices_at, sheet_at}

-- the prices of a version are there, and keep the price relation after some postings
abbrev pub IsPriced : InstructionParts → List (List ℕ) → ℕ → Type 0
IsPriced i sheets version =
    (version < length sheets) × ((ps : List Posting) × PricesMeet i ps (prices_at sheets version))

-- they aren't there, or keep it nowhere
abbrev pub IsMissing : InstructionParts → List (List ℕ) → ℕ → Type 0
IsMissing i sheets version = IsPriced i sheets version → ⊥

-- the sheets of the first versions, in order
abbrev pub AreMade : InstructionParts → List (List ℕ) → List SheetParts → Type 0
AreMade i sheets made =
    (version : ℕ) → version < length made → slice_get made version ≡ Some (sheet_at i sheets version)
