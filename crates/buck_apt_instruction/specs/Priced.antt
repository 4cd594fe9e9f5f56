-- An instruction with other base prices, which is the same in all else, and which prices may be put in.
use Rattle.std.specs.Prelude.{◌≡◌, ℕ, ◌≤◌, List, length, All}
use Rattle.buck_apt_instruction.specs.Instruction.{AssortmentParts, InstructionParts, classes}
use Rattle.buck_apt_instruction.specs.Changed.{with_lists, with_assortments, each_with}

-- an assortment of these base prices
abbrev pub pricing : List ℕ → AssortmentParts → AssortmentParts
pricing prices a = with_lists a.grades prices a.targets a

abbrev pub with_prices : List ℕ → InstructionParts → InstructionParts
with_prices prices i = with_assortments i (each_with pricing prices i.assortments)

-- base prices that may be put in: one for each class, assortment by assortment and row by row, none too great
pub record MayBePrices (i : InstructionParts) (prices : List ℕ) : Type 0 where
  pub one_each : length prices ≡ classes i
  pub low : All (λ p. p ≤ 10000000) prices
