-- Logs to which no reason before their length's applies.
use Rattle.std.specs.Prelude.{◌≡◌, ℕ, Some, slice_get}
use Rattle.buck_apt_instruction.specs.Instruction.{InstructionParts, AssortmentParts}
use Rattle.buck_stem_shape.specs.Stem.{StemParts}
use Rattle.buck_value.specs.declared.log.Log.{Log}
use Rattle.buck_dp_own_logs.specs.Reasons.{NoneBelow}

-- this holds of each instruction that has the assortment, and each place, if no reason before the length's applies
abbrev pub HoldsMeasured : AssortmentParts → StemParts → Log → (InstructionParts → ℕ → Type 0) → Type 0
HoldsMeasured a stem g P =
    (i : InstructionParts) (from : ℕ) → slice_get i.assortments g.assortment ≡ Some a → NoneBelow i stem from g 5
    → P i from
