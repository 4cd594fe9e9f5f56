-- What a run over an instruction file and a stem file answers, and one over an input that has both.
use Rattle.std.specs.Prelude.{◌⊎◌, ℕ, Bool, ◌==◌, List, Option, Result, Ok, Err, IfSome}
use Rattle.std.specs.List.{before_first, after_first}
use Rattle.std.specs.Option.{option_map}
use Rattle.buck_apt_instruction.specs.Instruction.{InstructionParts}
use Rattle.buck_apt.specs.Apt.{apt_of}
use Rattle.buck_stem_shape.specs.Stem.{StemParts}
use Rattle.buck_stem.specs.Stm.{stm_of}
use Rattle.buckfleet_engine_files.specs.declared.fault.EngineFault.{EngineFault}
use Rattle.buckfleet_engine_files.specs.declared.fault.EngineFault.TheVariants.{Stm}
use Rattle.buckfleet_engine_text.specs.Bucking.{IsBuckText}
use Rattle.buckfleet_engine_files.specs.Reading.{IsAccepted, IsAptFault, IsFileFault, IsStmFault, IsWithinLimit, Says}

-- the text of the instruction and the stems that the two files have
pub record IsAnswerTo (apt stm : Option (List ℕ)) (text : List ℕ) : Type 0 where
  pub instruction : InstructionParts
  pub stems : List StemParts
  pub apt_says : Says apt_of apt (Ok instruction)
  pub stm_says : Says stm_of stm (Ok stems)
  pub text_is : IsBuckText instruction stems text

-- the text of the two files, or the fault of the first that has one
abbrev pub AnswersBuck : Option (List ℕ) → Option (List ℕ) → Result (List ℕ) EngineFault → Type 0
AnswersBuck apt stm (Ok text) = IsAnswerTo apt stm text
AnswersBuck apt stm (Err fault) = IsAptFault apt fault ⊎ (IsAccepted apt_of apt × IsStmFault 1 stm fault)

-- the byte that ends the instruction if both files stand in one input
abbrev pub is_bar : ℕ → Bool
is_bar b = b == 124

-- what stands before the bar of an input, and after it
abbrev pub apt_part : Option (List ℕ) → Option (List ℕ)
apt_part input = option_map (before_first is_bar) input

abbrev pub stm_part : Option (List ℕ) → Option (List ℕ)
stm_part input = option_map (after_first is_bar) input

-- the text of the two parts of an input, which is file 0, or the fault of the first that has one
abbrev pub AnswersBare : Option (List ℕ) → Result (List ℕ) EngineFault → Type 0
AnswersBare input (Ok text) = IfSome input IsWithinLimit × IsAnswerTo (apt_part input) (stm_part input) text
AnswersBare input (Err fault) = IsAptFault (apt_part input) fault
    ⊎ (IsAccepted apt_of (apt_part input) × IsFileFault 0 (Stm 1) stm_of (stm_part input) fault)
