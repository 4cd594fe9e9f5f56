-- Wood, and who takes it.
use Rattle.std.specs.Prelude.{◌≡◌, ℕ, ◌-◌, ◌≤◌, List, Contains}
use Rattle.std.specs.Int.{bit_at}
use Rattle.buck_apt_instruction.specs.Instruction.{AssortmentParts}

-- each grade of a mask is one of these
abbrev pub AllIn : ℕ → List ℕ → Type 0
AllIn mask grades = (g : ℕ) → 1 ≤ g → g ≤ 8 → bit_at mask (g - 1) ≡ 1 → Contains grades g

-- an assortment takes wood of its species and its grades
abbrev pub TakesWood : AssortmentParts → ℕ → ℕ → Type 0
TakesWood x species grades = (x.species ≡ species) × AllIn grades x.grades
