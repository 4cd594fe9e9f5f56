-- Laws of the definitions.
use Rattle.std.specs.Prelude.{◌≡◌, ℕ, List}
use Rattle.buck_apt_instruction.specs.Instruction.{InstructionParts}
use Rattle.buck_stem_shape.specs.Stem.{StemParts}
use Rattle.buckfleet_engine_text.specs.Bucking.{IsBuckText}

-- an instruction and stems have no more than one text
abbrev pub OneText : Type 0
OneText = (i : InstructionParts) (stems : List StemParts) (a b : List ℕ) → IsBuckText i stems a
    → IsBuckText i stems b → a ≡ b
