-- How a whole run of a fleet ends: what is opened and made, and what is written.
use Rattle.std.specs.Prelude.{◌≡◌, ℕ, List, map, Option, Some, None, Result, Ok, Err}
use Rattle.std.specs.Option.{option_map}
use Rattle.std.specs.Io.KnownBytes.{Keeps}
use Rattle.buck_book_postings.specs.History.{HistoryParts}
use Rattle.buckfleet_engine_files.specs.declared.fault.EngineFault.{EngineFault}
use Rattle.buckfleet_engine_files.specs.declared.fault.EngineFault.TheVariants.{Write}
use Rattle.buckfleet_tasks.specs.declared.harvests.Order.{Order}
use Rattle.buckfleet_tasks.specs.declared.harvests.FleetTask.{FleetTask}
use Rattle.buckfleet_engine_files.specs.Lent.{no_writer, of_writer}
use Rattle.buckfleet_engine.specs.fleet.Running.{IsFleetRun}
use Rattle.buckfleet_engine_files.specs.Opening.{AnswersInputs}
use Rattle.buckfleet_engine_files.specs.Reading.{ReadsApt, apt_with}
use Rattle.buckfleet_engine_files.specs.Ruled.{FollowsRule}

-- a run over files that are open, whose journal goes into a file that was made; if that can't be, nothing is written
abbrev pub RunsMade : {F M : Type 0} → (F → Option (List ℕ)) → (M → Option (List ℕ)) → ReadsApt → Order
    → (HistoryParts → Type 0) → F × List F → Option M → Option (List ℕ) → Option (List ℕ)
    → Result (Unit {0}) EngineFault → Type 0
RunsMade held contents reads order ByRule files None old new outcome = (outcome ≡ Err Write) × Keeps old new
RunsMade held contents reads order ByRule files (Some made) old new outcome =
    (left : _)
    × IsFleetRun reads order ByRule (held files.0) (map held files.1) (of_writer (contents made) (contents left))
    old new outcome

-- a run over the files that were opened: the file of the journal is made first, if one is wanted
abbrev pub RunsInputs : {O F M : Type 0} → (O → List ℕ → Option M → O → Type 0) → (F → Option (List ℕ))
    → (M → Option (List ℕ)) → O → O → ReadsApt → Order → (HistoryParts → Type 0) → Option (List ℕ)
    → Result (F × List F) EngineFault → Option (List ℕ) → Option (List ℕ) → Result (Unit {0}) EngineFault → Type 0
RunsInputs makes held contents start end reads order ByRule journal (Err fault) old new outcome =
    (outcome ≡ Err fault) × (end ≡ start) × Keeps old new
RunsInputs makes held contents start end reads order ByRule None (Ok files) old new outcome =
    (end ≡ start) × IsFleetRun reads order ByRule (held files.0) (map held files.1) no_writer old new outcome
RunsInputs makes held contents start end reads order ByRule (Some name) (Ok files) old new outcome =
    (made : _) × makes start name made end × RunsMade held contents reads order ByRule files made old new outcome

-- all input files are opened by their names, in order, then the file of the journal is made, and then the fleet runs,
-- with the task's numbers in the place of the instruction's own; in turn its prices are by the task's rule
pub record RunsFleet {O F M : Type 0} (opens : O → List ℕ → Option F → O → Type 0)
    (makes : O → List ℕ → Option M → O → Type 0) (held : F → Option (List ℕ)) (contents : M → Option (List ℕ))
    (start end : O) (task : FleetTask) (old new : Option (List ℕ)) (outcome : Result (Unit {0}) EngineFault)
    : Type 0 where
  pub opened : Result (F × List F) EngineFault
  pub between : O
  pub answers : AnswersInputs opens start between task.apt.now (map (λ s. s.now) task.stms.items) opened
  pub runs : RunsInputs makes held contents between end (apt_with task.settings) task.order (FollowsRule task.rule)
      (option_map (λ s. s.now) task.journal) opened old new outcome
