-- How a whole run of a trial ends: what is opened, and what is written.
use Rattle.std.specs.Prelude.{◌≡◌, ℕ, List, map, Option, Result, Ok, Err}
use Rattle.std.specs.Option.{option_map}
use Rattle.std.specs.Io.KnownBytes.{Keeps}
use Rattle.buckfleet_engine_files.specs.declared.fault.EngineFault.{EngineFault}
use Rattle.buckfleet_terms_files.specs.declared.fault.TermsFault.{TermsFault}
use Rattle.buckfleet_terms_files.specs.declared.fault.TermsFault.TheVariants.{Run}
use Rattle.buckfleet_trial.specs.declared.reading.Opened.{Opened}
use Rattle.buckfleet_tasks.specs.declared.trials.TrialTask.{TrialTask}
use Rattle.buckfleet_trial.specs.Inputs.{AnswersFiles, held_with}
use Rattle.buckfleet_terms_files.specs.Telling.{WritesTerms}
use Rattle.buckfleet_trial.specs.Trial.{AnswersTrial}

-- a run over the files that were opened; if one can't be, nothing is written
abbrev pub RunsOpened : {F : Type 0} → (Opened F → Result (List ℕ) TermsFault → Type 0)
    → Result (Opened F) EngineFault → Option (List ℕ) → Option (List ℕ) → Result (Unit {0}) TermsFault → Type 0
RunsOpened Answers (Ok files) old new outcome = WritesTerms (Answers files) old new outcome
RunsOpened Answers (Err fault) old new outcome = (outcome ≡ Err (Run fault)) × Keeps old new

-- all input files are opened by their names, in order, and then the table is made
pub record RunsFiles {O F : Type 0} (opens : O → List ℕ → Option F → O → Type 0)
    (Answers : Opened F → Result (List ℕ) TermsFault → Type 0) (start end : O) (apt : List ℕ)
    (stms : List (List ℕ)) (targets : Option (List ℕ)) (old new : Option (List ℕ))
    (outcome : Result (Unit {0}) TermsFault) : Type 0 where
  pub opened : Result (Opened F) EngineFault
  pub answers : AnswersFiles opens start end apt stms targets opened
  pub runs : RunsOpened Answers opened old new outcome

-- that of a trial
abbrev pub RunsTrial : {O F : Type 0} → (O → List ℕ → Option F → O → Type 0) → (F → Option (List ℕ)) → O → O
    → TrialTask → Option (List ℕ) → Option (List ℕ) → Result (Unit {0}) TermsFault → Type 0
RunsTrial opens held start end task old new outcome =
    RunsFiles opens
    (λ files. AnswersTrial task.combinations.items task.draws (held files.apt) (map held files.stms.items)
    (held_with held files.targets)) start end task.apt.now (map (λ s. s.now) task.stms.items)
    (option_map (λ s. s.now) task.targets) old new outcome
