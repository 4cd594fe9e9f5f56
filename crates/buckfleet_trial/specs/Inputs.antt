-- What the files of a trial say.
use Rattle.std.specs.Prelude.{◌≡◌, ◌⊎◌, ◌<◌, ◌≤◌, ◌+◌, ℕ, min, List, length, Option, Some, None, Result, Ok, Err}
use Rattle.std.specs.Option.{option_map}
use Rattle.std.specs.declared.sync.Arc.{Arc}
use Rattle.std.specs.declared.vec.Vec.{Vec}
use Rattle.std.specs.declared.alloc.Global.{Global}
use Rattle.buck_apt.specs.Apt.{apt_of}
use Rattle.buck_apt_instruction.specs.Instruction.{InstructionParts}
use Rattle.buck_apt_instruction.specs.Wanted.{with_targets}
use Rattle.buck_stem_shape.specs.declared.stem.Stem.{Stem}
use Rattle.buck_book_postings.specs.declared.posting.TheConstants.{MOST_POSTINGS}
use Rattle.buck_fleet_round_robin.specs.Turn.{stems_in_all}
use Rattle.buckfleet_engine_files.specs.declared.fault.EngineFault.{EngineFault}
use Rattle.buckfleet_engine_files.specs.declared.fault.EngineFault.TheVariants.{Full, Seats}
use Rattle.buckfleet_engine_input.specs.Harvest.{AreListsOf, AreNoSeats, HaveTooMany, IsFleetFault}
use Rattle.buckfleet_engine_files.specs.Opening.{AnswersInputs}
use Rattle.buckfleet_engine_files.specs.Reading.{Says}
use Rattle.buckfleet_terms_files.specs.declared.fault.TermsFault.{TermsFault}
use Rattle.buckfleet_terms_files.specs.declared.fault.TermsFault.TheVariants.{Run}
use Rattle.buckfleet_terms_files.specs.Reading.{AnswersMore, IsTargetsFileFault, SaysTargets}
use Rattle.buckfleet_trial.specs.declared.reading.Opened.{Opened}

-- the targets of a file take the place of an instruction's own, if there is one
abbrev pub HasWanted : InstructionParts → Option (Option (List ℕ) × ℕ) → InstructionParts → Type 0
HasWanted own None i = i ≡ own
HasWanted own (Some file) i = (targets : List ℕ) × SaysTargets own file.0 targets × (i ≡ with_targets targets own)

-- the instruction and the lists of stems that the files of a trial have, which are 1 to 64 stem files
pub record SaysInput (apt : Option (List ℕ)) (stms : List (Option (List ℕ))) (targets : Option (Option (List ℕ) × ℕ))
    (i : InstructionParts) (lists : List (Vec (Arc Stem Global) Global)) : Type 0 where
  pub crew : (0 < length stms) × (length stms ≤ 64)
  pub own : InstructionParts
  pub apt_says : Says apt_of apt (Ok own)
  pub one_each : length lists ≡ length stms
  pub stms_say : AreListsOf (length stms) stms lists
  pub wanted : HasWanted own targets i

-- the file of targets is refused; all files before it are accepted, and their stems aren't too many
pub record IsLastFault (apt : Option (List ℕ)) (stms : List (Option (List ℕ))) (file : Option (List ℕ)) (number : ℕ)
    (fault : TermsFault) : Type 0 where
  pub own : InstructionParts
  pub apt_says : Says apt_of apt (Ok own)
  pub lists : List (Vec (Arc Stem Global) Global)
  pub one_each : length lists ≡ length stms
  pub stms_say : AreListsOf (length stms) stms lists
  pub few : stems_in_all lists ≤ MOST_POSTINGS
  pub is_fault : IsTargetsFileFault number own file fault

abbrev pub IsTargetsStop : Option (List ℕ) → List (Option (List ℕ)) → Option (Option (List ℕ) × ℕ) → TermsFault → Type 0
IsTargetsStop apt stms None fault = ⊥
IsTargetsStop apt stms (Some file) fault = IsLastFault apt stms file.0 file.1 fault

-- why the files of a trial come to nothing: there are no 1 to 64 stem files, or else as those of a fleet, or for their
-- file of targets
pub record IsInputFault (apt : Option (List ℕ)) (stms : List (Option (List ℕ)))
    (targets : Option (Option (List ℕ) × ℕ)) (fault : TermsFault) : Type 0 where
  pub seats : AreNoSeats (length stms) → fault ≡ Run Seats
  pub cause :
      ((why : EngineFault) × (fault ≡ Run why) × IsFleetFault apt stms why × (why ≡ Full → HaveTooMany stms))
      ⊎ IsTargetsStop apt stms targets fault

-- the files are opened by their names, the file of targets last
pub record OpensFiles {O F : Type 0} (opens : O → List ℕ → Option F → O → Type 0) (old new : O) (apt : List ℕ)
    (stms : List (List ℕ)) (targets : Option (List ℕ)) (files : Opened F) : Type 0 where
  pub between : O
  pub inputs : AnswersInputs opens old between apt stms (Ok (files.apt, files.stms.items))
  pub more : AnswersMore opens between new targets (min (length stms + 1) 4294967295) (Ok files.targets)

pub record StopsBefore {O F : Type 0} (opens : O → List ℕ → Option F → O → Type 0) (old new : O) (apt : List ℕ)
    (stms : List (List ℕ)) (targets : Option (List ℕ)) (fault : EngineFault) : Type 0 where
  pub between : O
  pub opened : F × List F
  pub inputs : AnswersInputs opens old between apt stms (Ok opened)
  pub more : AnswersMore opens between new targets (min (length stms + 1) 4294967295) (Err fault)

-- all files, or that one can't be read: the first that can't be opened
abbrev pub AnswersFiles : {O F : Type 0} → (O → List ℕ → Option F → O → Type 0) → O → O → List ℕ → List (List ℕ)
    → Option (List ℕ) → Result (Opened F) EngineFault → Type 0
AnswersFiles opens old new apt stms targets (Ok files) = OpensFiles opens old new apt stms targets files
AnswersFiles opens old new apt stms targets (Err fault) =
    AnswersInputs opens old new apt stms (Err fault) ⊎ StopsBefore opens old new apt stms targets fault

-- what is left to be read of the file of targets, with its number
abbrev pub held_with : {F : Type 0} → (F → Option (List ℕ)) → Option (F × ℕ) → Option (Option (List ℕ) × ℕ)
held_with held opened = option_map (λ f. (held f.0, f.1)) opened
