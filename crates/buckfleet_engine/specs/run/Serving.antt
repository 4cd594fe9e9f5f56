-- How a whole run ends: what is opened, what is written, and what is reported of it.
use Rattle.std.specs.Prelude.{◌≡◌, ℕ, List, Option, Result, Ok, Err}
use Rattle.std.specs.Io.KnownBytes.{Keeps}
use Rattle.buckfleet_engine_files.specs.declared.fault.EngineFault.{EngineFault}
use Rattle.buckfleet_tasks.specs.declared.work.Task.{Task}
use Rattle.buckfleet_tasks.specs.declared.work.Task.TheVariants.{Bare, Report}
use Rattle.buckfleet_engine.specs.run.Bucking.{AnswersBare}
use Rattle.buckfleet_engine.specs.run.Checking.{AnswersJournal, IsJournalReport}
use Rattle.buckfleet_engine_files.specs.Reading.{apt_with}
use Rattle.buckfleet_engine_files.specs.Faults.{status_of, fault_line}
use Rattle.buckfleet_engine_files.specs.Opening.{AnswersOpening}
use Rattle.buckfleet_engine_files.specs.Written.{WritesText, AppendsFirst}

-- what is answered to two files, as far as their bytes are known
abbrev pub AnswersTwo : Type 1
AnswersTwo = Option (List ℕ) → Option (List ℕ) → Result (List ℕ) EngineFault → Type 0

-- a run over the files that were opened; if one can't be, nothing is written
abbrev pub RunsOpened : {F : Type 0} → AnswersTwo → (F → Option (List ℕ)) → Result (F × F) EngineFault
    → Option (List ℕ) → Option (List ℕ) → Result (Unit {0}) EngineFault → Type 0
RunsOpened Answers held (Ok files) old new outcome = WritesText (Answers (held files.0) (held files.1)) old new outcome
RunsOpened Answers held (Err fault) old new outcome = (outcome ≡ Err fault) × Keeps old new

-- both files are opened by their names, and then it is run over them
pub record RunsFiles {O F : Type 0} (Answers : AnswersTwo) (opens : O → List ℕ → Option F → O → Type 0)
    (held : F → Option (List ℕ)) (start end : O) (first second : List ℕ) (old new : Option (List ℕ))
    (outcome : Result (Unit {0}) EngineFault) : Type 0 where
  pub opened : Result (F × F) EngineFault
  pub answers : AnswersOpening opens start end first second opened
  pub runs : RunsOpened Answers held opened old new outcome

-- what a task asks for: over the input, or over the files of its names
abbrev pub RunsTask : {O F : Type 0} → (O → List ℕ → Option F → O → Type 0) → (F → Option (List ℕ)) → O → O
    → Option (List ℕ) → Task → Option (List ℕ) → Option (List ℕ) → Result (Unit {0}) EngineFault → Type 0
RunsTask opens held start end input Bare old new outcome = WritesText (AnswersBare input) old new outcome
RunsTask opens held start end input (Report apt journal settings) old new outcome =
    RunsFiles (AnswersJournal (apt_with settings) IsJournalReport) opens held start end apt.now journal.now
    old new outcome

-- the exit status of a run
abbrev pub status_after : Result (Unit {0}) EngineFault → ℕ
status_after (Ok _) = 0
status_after (Err fault) = status_of fault

-- nothing is said of a run that went well, and of a fault its line
abbrev pub TellsOutcome : Option (List ℕ) → Option (List ℕ) → Result (Unit {0}) EngineFault → Type 0
TellsOutcome old new (Ok _) = Keeps old new
TellsOutcome old new (Err fault) = AppendsFirst old new (fault_line fault)
