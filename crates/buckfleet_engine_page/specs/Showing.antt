-- What a whole run comes to that shows journals.
use Rattle.std.specs.Prelude.{◌≡◌, ℕ, List, map, Option, Result, Ok, Err}
use Rattle.std.specs.Io.KnownBytes.{Keeps}
use Rattle.buckfleet_engine_files.specs.declared.fault.EngineFault.{EngineFault}
use Rattle.buckfleet_tasks.specs.declared.journals.Shown.{Shown}
use Rattle.buckfleet_tasks.specs.declared.journals.Shown.TheVariants.{Page, Table}
use Rattle.buckfleet_tasks.specs.declared.journals.ViewTask.{ViewTask}
use Rattle.buckfleet_engine_files.specs.Opening.{AnswersInputs}
use Rattle.buckfleet_engine_files.specs.Reading.{ReadsApt, apt_with}
use Rattle.buckfleet_engine_page.specs.Several.{ShowsPages, ShowsTables}

-- how a run over the instruction file and the journals' files ends that shows this
abbrev pub Shows : ReadsApt → Shown → Option (List ℕ) → List (Option (List ℕ)) → Option (List ℕ) → Option (List ℕ)
    → Result (Unit {0}) EngineFault → Type 0
Shows reads Page apt files old new outcome = ShowsPages reads apt files old new outcome
Shows reads (Table table) apt files old new outcome = ShowsTables reads apt files old new outcome

-- over the files that were opened; if one can't be, nothing is written
abbrev pub ShowsOpened : {F : Type 0} → ReadsApt → Shown → (F → Option (List ℕ)) → Result (F × List F) EngineFault
    → Option (List ℕ) → Option (List ℕ) → Result (Unit {0}) EngineFault → Type 0
ShowsOpened reads shown held (Ok files) old new outcome =
    Shows reads shown (held files.0) (map held files.1) old new outcome
ShowsOpened reads shown held (Err fault) old new outcome = (outcome ≡ Err fault) × Keeps old new

-- all files of the task are opened by their names, the instruction's first, and then what it asks for is shown, with
-- the task's numbers in the place of the instruction's own
pub record RunsView {O F : Type 0} (opens : O → List ℕ → Option F → O → Type 0) (held : F → Option (List ℕ))
    (start end : O) (task : ViewTask) (old new : Option (List ℕ)) (outcome : Result (Unit {0}) EngineFault)
    : Type 0 where
  pub opened : Result (F × List F) EngineFault
  pub answers : AnswersInputs opens start end task.apt.now (map (λ s. s.now) task.journals.items) opened
  pub runs : ShowsOpened (apt_with task.settings) task.shown held opened old new outcome
