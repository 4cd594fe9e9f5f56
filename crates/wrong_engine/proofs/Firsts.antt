-- Reports of histories whose cuttings are the first of the best.
use Rattle.std.proofs.Common.{◌≡◌, ◌≢◌, ℕ, List, [], ◌++◌, Option, Some, Result, Ok, Err, true, sym, ap, ◌∙◌}
use Rattle.std.specs.Result.{is_ok}
use Rattle.buck_book_postings.specs.History.{HistoryParts}
use Rattle.buckfleet_engine_files.specs.declared.fault.EngineFault.{EngineFault}
use Rattle.buckfleet_tasks.specs.declared.harvests.Order.{Order}
use Rattle.buckfleet_engine_files.specs.Reading.{ReadsApt}
use Rattle.buckfleet_engine_files.specs.Lent.{OfWriter}
use Rattle.buckfleet_engine.specs.fleet.Running.{IsFleetRun}
use Rattle.buckfleet_engine_input.specs.Harvest.{AreFirsts}
use Rattle.buckfleet_engine_text.specs.Report.{ending_of, report_of}

-- no run that ended well wrote what is the report of no such history
pub not_of_firsts : (reads : ReadsApt) (order : Order) (ByRule : HistoryParts → Type 0) (apt : Option (List ℕ))
    (stms : List (Option (List ℕ))) (OfJournal : OfWriter) (old text wrong : List ℕ)
    (r : Result (Unit {0}) EngineFault)
    → ((h : HistoryParts) (counts : List ℕ) → AreFirsts h → wrong ≢ report_of h.postings (ending_of h counts))
    → IsFleetRun reads order ByRule apt stms OfJournal (Some old) (Some text) r → is_ok r ≡ true → old ≡ []
    → text ≡ wrong → ⊥
not_of_firsts reads order ByRule apt stms OfJournal old text wrong (Ok u) differ ran well none same =
    let wrote = ran.run.2 in
    differ ran.run.0 wrote.is_report.counts ran.run.1.0.firsts
    (sym same ∙ wrote.report_whole ∙ ap (λ (o : List ℕ). o ++ wrote.report) none ∙ wrote.is_report.text_is)
not_of_firsts reads order ByRule apt stms OfJournal old text wrong (Err fault) differ ran well none same = cc well
