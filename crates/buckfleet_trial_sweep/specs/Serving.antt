-- How a whole run of a table ends: what is opened, and what is written.
use Rattle.std.specs.Prelude.{◌≡◌, ℕ, List, map, Option, Result, Ok, Err}
use Rattle.std.specs.Io.KnownBytes.{Keeps}
use Rattle.buckfleet_engine_files.specs.declared.fault.EngineFault.{EngineFault}
use Rattle.buckfleet_engine_files.specs.Opening.{AnswersInputs}
use Rattle.buckfleet_tasks.specs.declared.combination.Combination.{Combination}
use Rattle.buckfleet_tasks.specs.declared.trials.SweepTask.{SweepTask}
use Rattle.buckfleet_trial_sweep.specs.Sweep.{IsSweepRun}

-- a run over the files that were opened; if one can't be, nothing is written
abbrev pub RunsInputs : {F : Type 0} → (F → Option (List ℕ)) → List Combination → Result (F × List F) EngineFault
    → Option (List ℕ) → Option (List ℕ) → Result (Unit {0}) EngineFault → Type 0
RunsInputs held cs (Ok files) old new outcome = IsSweepRun cs (held files.0) (map held files.1) old new outcome
RunsInputs held cs (Err fault) old new outcome = (outcome ≡ Err fault) × Keeps old new

-- all input files are opened by their names, in order, and then the table is made
pub record RunsSweep {O F : Type 0} (opens : O → List ℕ → Option F → O → Type 0) (held : F → Option (List ℕ))
    (start end : O) (task : SweepTask) (old new : Option (List ℕ)) (outcome : Result (Unit {0}) EngineFault)
    : Type 0 where
  pub opened : Result (F × List F) EngineFault
  pub answers : AnswersInputs opens start end task.apt.now (map (λ s. s.now) task.stms.items) opened
  pub runs : RunsInputs held task.combinations.items opened old new outcome
