-- How a whole run of a check ends that ties a journal: what is opened, and what is written.
use Rattle.std.specs.Prelude.{◌≡◌, ℕ, List, [], ◌∷◌, map, Option, Result, Ok, Err}
use Rattle.std.specs.Io.KnownBytes.{Keeps}
use Rattle.buckfleet_engine_files.specs.declared.fault.EngineFault.{EngineFault}
use Rattle.buckfleet_engine_files.specs.declared.fault.EngineFault.TheVariants.{Read}
use Rattle.buck_rule.specs.declared.named.NamedRule.{NamedRule}
use Rattle.buckfleet_tasks.specs.declared.journals.CheckTask.{CheckTask}
use Rattle.buckfleet_engine_files.specs.Opening.{AnswersInputs}
use Rattle.buckfleet_engine_files.specs.Reading.{ReadsApt, apt_with}
use Rattle.buckfleet_engine_files.specs.Written.{WritesText}
use Rattle.buckfleet_engine_cross_check.specs.Answers.{AnswersCheckWith}

-- a check over files that are open: the first of those behind the instruction file is the journal
abbrev pub ChecksFiles : {F : Type 0} → ReadsApt → Option NamedRule → (F → Option (List ℕ)) → F → List F
    → Option (List ℕ) → Option (List ℕ) → Result (Unit {0}) EngineFault → Type 0
ChecksFiles reads rule held apt [] old new outcome = (outcome ≡ Err (Read 1)) × Keeps old new
ChecksFiles reads rule held apt (journal ∷ stms) old new outcome =
    WritesText (AnswersCheckWith reads rule (held apt) (held journal) (map held stms)) old new outcome

-- over the files that were opened; if one can't be, nothing is written
abbrev pub ChecksOpened : {F : Type 0} → ReadsApt → Option NamedRule → (F → Option (List ℕ))
    → Result (F × List F) EngineFault → Option (List ℕ) → Option (List ℕ) → Result (Unit {0}) EngineFault → Type 0
ChecksOpened reads rule held (Ok files) old new outcome = ChecksFiles reads rule held files.0 files.1 old new outcome
ChecksOpened reads rule held (Err fault) old new outcome = (outcome ≡ Err fault) × Keeps old new

-- all files of the task are opened by their names, in order, and then the journal is checked, with the task's numbers
-- in the place of the instruction's own
pub record RunsCheck {O F : Type 0} (opens : O → List ℕ → Option F → O → Type 0) (held : F → Option (List ℕ))
    (start end : O) (task : CheckTask) (old new : Option (List ℕ)) (outcome : Result (Unit {0}) EngineFault)
    : Type 0 where
  pub opened : Result (F × List F) EngineFault
  pub answers : AnswersInputs opens start end task.apt.now (map (λ s. s.now) task.files.items) opened
  pub runs : ChecksOpened (apt_with task.by.settings) task.by.rule held opened old new outcome
