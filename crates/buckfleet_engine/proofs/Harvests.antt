-- What was written of the texts of a history.
use Rattle.std.proofs.Common.{◌≡◌, ℕ, List, Option, Result, Ok, Err, inl, inr, sym, subst}
use Rattle.std.specs.Io.KnownBytes.{Appends}
use Rattle.std.proofs.KnownBytes.{Keeps-refl}
use Rattle.buck_book_postings.specs.History.{HistoryParts}
use Rattle.buck_book_journal.specs.Written.{journal_text}
use Rattle.buckfleet_engine_files.specs.declared.fault.EngineFault.{EngineFault}
use Rattle.buckfleet_engine_files.specs.Lent.{of_writer}
use Rattle.buckfleet_engine_files.specs.Written.{AppendsSome, IsWritten}
use Rattle.buckfleet_engine_text.specs.Report.{IsReport}
use Rattle.buckfleet_engine.specs.inner.Fleet.{AreWritten}

-- the journal stopped, and nothing was written of the report
pub journal_stopped : (h : HistoryParts) (a b old : Option (List ℕ)) (text report : List ℕ) (f : EngineFault)
    → text ≡ journal_text h.sheets h.postings → IsReport h report → IsWritten a b text (Err f)
    → AreWritten h (of_writer a b) old old (Err f)
journal_stopped h a b old text report f is rep (w, some) =
    subst (λ (x : EngineFault). AreWritten h (of_writer a b) old old (Err x)) (sym w)
    (record { report = report; is_report = rep; stopped = inl (subst (AppendsSome a b) is some, Keeps-refl old) })

-- all of the journal was written, and then the report or some of it
pub report_written : (h : HistoryParts) (a b old new : Option (List ℕ)) (text report : List ℕ)
    (r : Result (Unit {0}) EngineFault)
    → text ≡ journal_text h.sheets h.postings → IsReport h report → Appends a b text → IsWritten old new report r
    → AreWritten h (of_writer a b) old new r
report_written h a b old new text report (Ok u) is rep all w =
    record { report = report; is_report = rep; journal_whole = subst (Appends a b) is all; report_whole = w }
report_written h a b old new text report (Err e) is rep all (w, some) =
    subst (λ (x : EngineFault). AreWritten h (of_writer a b) old new (Err x)) (sym w)
    (record { report = report; is_report = rep; stopped = inr (subst (Appends a b) is all, some) })

pub ruleset texts = (journal_stopped, report_written)
