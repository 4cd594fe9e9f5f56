-- What is read of a file's bytes.
use Rattle.std.specs.Prelude.{◌≡◌, ◌⊎◌, List, ℕ, Result, Ok, Err}
use Rattle.buck_apt_instruction.specs.Instruction.{InstructionParts}
use Rattle.buck_apt.specs.Apt.{apt_of}
use Rattle.buck_stem_shape.specs.Stem.{StemParts}
use Rattle.buck_stem.specs.Stm.{stm_of}
use Rattle.buckfleet_engine_files.specs.declared.fault.EngineFault.{EngineFault}
use Rattle.buckfleet_engine_files.specs.declared.fault.EngineFault.TheVariants.{Apt, Stm}
use Rattle.buckfleet_engine_text.specs.Bucking.{IsBuckText}
use Rattle.buckfleet_engine_files.specs.Reading.{AreRefused}

-- the text of the instruction and the stems that the bytes of two files have
pub record HaveText (apt stm text : List ℕ) : Type 0 where
  pub instruction : InstructionParts
  pub stems : List StemParts
  pub apt_is : apt_of apt ≡ Ok instruction
  pub stm_is : stm_of stm ≡ Ok stems
  pub text_is : IsBuckText instruction stems text

-- that text, or the refusal of the first that is refused
abbrev pub AnswersBytes : List ℕ → List ℕ → Result (List ℕ) EngineFault → Type 0
AnswersBytes apt stm (Ok text) = HaveText apt stm text
AnswersBytes apt stm (Err fault) =
    AreRefused Apt apt_of apt fault
    ⊎ ((i : InstructionParts) × (apt_of apt ≡ Ok i) × AreRefused (Stm 1) stm_of stm fault)
