-- A fleet whose files were opened.
use Rattle.std.proofs.Common.{◌≡◌, ℕ, List, Option, Some, None, Result, Ok, length, map, subst}
use Rattle.std.proofs.lemmas.List.{length-map}
use Rattle.std.specs.Option.{option_map}
use Rattle.buck_book_postings.specs.History.{HistoryParts}
use Rattle.buckfleet_engine_files.specs.declared.fault.EngineFault.{EngineFault}
use Rattle.buckfleet_tasks.specs.declared.harvests.FleetTask.{FleetTask}
use Rattle.buckfleet_tasks.specs.declared.harvests.Order.{Order}
use Rattle.buckfleet_engine_files.specs.Lent.{of_made}
use Rattle.buckfleet_engine.specs.fleet.Running.{IsFleetRun}
use Rattle.buckfleet_engine_input.specs.Harvest.{AreNoSeats}
use Rattle.buckfleet_engine.specs.fleet.Serving.{RunsFleet, RunsInputs}
use Rattle.buckfleet_engine_files.specs.Opening.{AnswersInputs, MakesJournal}
use Rattle.buckfleet_engine_files.specs.Reading.{ReadsApt, apt_with}
use Rattle.buckfleet_engine_files.specs.Ruled.{FollowsRule}

-- the journal goes into the file that was made for it
inputs_run : {O F M : Type 0} (makes : O → List ℕ → Option M → O → Type 0) (held : F → Option (List ℕ))
    (contents : M → Option (List ℕ)) (start end : O) (reads : ReadsApt) (order : Order)
    (ByRule : HistoryParts → Type 0) (journal : Option (List ℕ)) (files : F × List F) (made : Option M)
    (old new : Option (List ℕ)) (r : Result (Unit {0}) EngineFault)
    → MakesJournal makes start end journal (Ok made)
    → of_made contents made (λ o. IsFleetRun reads order ByRule (held files.0) (map held files.1) o old new r)
    → RunsInputs makes held contents start end reads order ByRule journal (Ok files) old new r
inputs_run makes held contents start end reads order ByRule None files None old new r m run = (m, run)
inputs_run makes held contents start end reads order ByRule None files (Some made) old new r m run = absurd m
inputs_run makes held contents start end reads order ByRule (Some name) files None old new r m run = absurd m
inputs_run makes held contents start end reads order ByRule (Some name) files (Some made) old new r m run =
    (Some made, m, run)

-- the fleet of a task ran over the files that were opened
pub fleet_ran : {O F M : Type 0} (opens : O → List ℕ → Option F → O → Type 0)
    (makes : O → List ℕ → Option M → O → Type 0) (held : F → Option (List ℕ)) (contents : M → Option (List ℕ))
    (start between end : O) (task : FleetTask) (apt : F) (files stems : List F) (made : Option M)
    (old new : Option (List ℕ)) (r : Result (Unit {0}) EngineFault)
    → AnswersInputs opens start between task.apt.now (map (λ s. s.now) task.stms.items) (Ok (apt, files))
    → MakesJournal makes between end (option_map (λ s. s.now) task.journal) (Ok made) → stems ≡ files
    → of_made contents made
    (λ o. IsFleetRun (apt_with task.settings) task.order (FollowsRule task.rule) (held apt) (map held stems) o old new r)
    → RunsFleet opens makes held contents start end task old new r
fleet_ran opens makes held contents start between end task apt files stems made old new r opened m same run = record {
  opened = Ok (apt, files);
  between = between;
  answers = opened;
  runs = inputs_run makes held contents between end (apt_with task.settings) task.order (FollowsRule task.rule) _
      (apt, files) made old new r m
      (subst (λ (l : List _). of_made contents made (λ o. IsFleetRun (apt_with task.settings) task.order
      (FollowsRule task.rule) (held apt) (map held l) o old new r)) same run);
}
