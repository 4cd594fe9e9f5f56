-- What a table over an instruction file and stem files is: a line for each combination, from a run of its own.
use Rattle.std.specs.Prelude.{◌≡◌, ℕ, List, [], ◌∷◌, ◌++◌, length, Option, Result, Ok, Err}
use Rattle.buck_apt.specs.Apt.{apt_of}
use Rattle.buck_apt_instruction.specs.Instruction.{InstructionParts}
use Rattle.buck_book_postings.specs.History.{HistoryParts}
use Rattle.buck_fleet_round_robin.specs.Turn.{AreInTurn}
use Rattle.buckfleet_engine_files.specs.declared.fault.EngineFault.{EngineFault}
use Rattle.buckfleet_engine_files.specs.declared.fault.EngineFault.TheVariants.{Full, Seats}
use Rattle.buckfleet_engine_files.specs.Reading.{Says, apt_with}
use Rattle.buckfleet_engine_input.specs.Harvest.{AreNoSeats, HaveTooMany, IsFleetFault, IsHarvest}
use Rattle.buckfleet_engine_files.specs.Ruled.{FollowsRule}
use Rattle.buckfleet_engine_files.specs.Written.{WritesText}
use Rattle.buckfleet_tasks.specs.declared.combination.Combination.{Combination}
use Rattle.buckfleet_trial_sweep.specs.Table.{IsLine, head_line}

-- the line of a combination: that of a history in which the stems of the files were cut in turn, by the instruction
-- with the combination's numbers in the place of its own, and by the prices that the combination's rule gives
pub record IsLineOver (apt : Option (List ℕ)) (stms : List (Option (List ℕ))) (c : Combination) (line : List ℕ)
    : Type 0 where
  pub history : HistoryParts
  pub harvest : IsHarvest (apt_with c.settings) apt stms history
  pub in_turn : AreInTurn history.postings
  pub by_rule : FollowsRule c.rule history
  pub is_line : IsLine c.rule history line

-- a line for each combination, one after the other
abbrev pub AreLines : (Combination → List ℕ → Type 0) → List Combination → List ℕ → Type 0
AreLines IsOne [] text = text ≡ []
AreLines IsOne (c ∷ more) text =
    (line : List ℕ) × (rest : List ℕ) × (text ≡ line ++ rest) × IsOne c line × AreLines IsOne more rest

-- the names of the columns, and then a line for each combination
pub record IsTable (cs : List Combination) (apt : Option (List ℕ)) (stms : List (Option (List ℕ))) (text : List ℕ)
    : Type 0 where
  pub instruction : InstructionParts
  pub lines : List ℕ
  pub apt_says : Says apt_of apt (Ok instruction)
  pub are_lines : AreLines (IsLineOver apt stms) cs lines
  pub text_is : text ≡ head_line instruction ++ lines

-- the table, or why there is none, as of a fleet in turn
abbrev pub AnswersSweep : List Combination → Option (List ℕ) → List (Option (List ℕ))
    → Result (List ℕ) EngineFault → Type 0
AnswersSweep cs apt stms (Ok text) = IsTable cs apt stms text
AnswersSweep cs apt stms (Err fault) = IsFleetFault apt stms fault × (fault ≡ Full → HaveTooMany stms)

-- how a run over the files ended, and what it wrote
pub record IsSweepRun (cs : List Combination) (apt : Option (List ℕ)) (stms : List (Option (List ℕ)))
    (old new : Option (List ℕ)) (outcome : Result (Unit {0}) EngineFault) : Type 0 where
  pub seats : AreNoSeats (length stms) → outcome ≡ Err Seats
  pub run : WritesText (AnswersSweep cs apt stms) old new outcome
