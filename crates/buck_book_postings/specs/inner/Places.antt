-- The places of the classes of a plan's logs, among all classes: assortment by assortment and row by row.
use Rattle.std.specs.Prelude.{◌≡◌, ℕ, ◌<◌, List, map, All}
use Rattle.buck_apt_instruction.specs.Instruction.{InstructionParts, classes, index_of}
use Rattle.buck_stem_shape.specs.Stem.{StemParts}
use Rattle.buck_value.specs.declared.log.Log.{Log}
use Rattle.buck_value.specs.Allowed.{class_of}

-- the place of a log's class
abbrev pub class_place : InstructionParts → StemParts → Log → ℕ
class_place i stem g = index_of i (class_of i stem g)

-- those of the classes of logs, in their order
pub record ArePlaces (i : InstructionParts) (stem : StemParts) (logs : List Log) (places : List ℕ) : Type 0 where
  pub are : places ≡ map (class_place i stem) logs
  pub within : All (λ p. p < classes i) places
