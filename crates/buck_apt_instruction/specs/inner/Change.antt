-- Copies with a change: what an assortment becomes, and which numbers may be put in.
use Rattle.std.specs.Prelude.{List, ℕ}
use Rattle.buck_apt_instruction.specs.Instruction.{AssortmentParts, InstructionParts}
use Rattle.buck_apt_instruction.specs.Grades.{taking_all}
use Rattle.buck_apt_instruction.specs.Priced.{MayBePrices, pricing}
use Rattle.buck_apt_instruction.specs.Wanted.{MayBeWanted, wanting}
use Rattle.buck_apt_instruction.specs.declared.assortment.Change.{Change}
use Rattle.buck_apt_instruction.specs.declared.assortment.Change.TheVariants.{Nothing, Grades, Prices, Targets}

abbrev pub changed : Change → List ℕ → AssortmentParts → AssortmentParts
changed Nothing = λ numbers a. a
changed Grades = λ numbers a. taking_all a
changed Prices = pricing
changed Targets = wanting

abbrev pub MayChange : Change → InstructionParts → List ℕ → Type 0
MayChange Nothing = λ i numbers. Unit {0}
MayChange Grades = λ i numbers. Unit {0}
MayChange Prices = MayBePrices
MayChange Targets = MayBeWanted
