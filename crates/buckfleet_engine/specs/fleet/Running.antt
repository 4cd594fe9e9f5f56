-- What a run of a fleet over an instruction file and stem files answers: a journal and a report of one history.
use Rattle.std.specs.Prelude.{◌≡◌, ◌⊎◌, ℕ, List, length, Option, Result, Ok, Err}
use Rattle.std.specs.Io.KnownBytes.{Appends, Keeps}
use Rattle.buck_book_postings.specs.History.{HistoryParts}
use Rattle.buck_book_journal.specs.Written.{journal_text}
use Rattle.buck_fleet_round_robin.specs.Turn.{AreInTurn}
use Rattle.buckfleet_tasks.specs.declared.harvests.Order.{Order}
use Rattle.buckfleet_tasks.specs.declared.harvests.Order.TheVariants.{AtOnce, InTurn}
use Rattle.buckfleet_engine_files.specs.declared.fault.EngineFault.{EngineFault}
use Rattle.buckfleet_engine_files.specs.declared.fault.EngineFault.TheVariants.{Seats, Full}
use Rattle.buckfleet_engine_files.specs.Reading.{ReadsApt}
use Rattle.buckfleet_engine_files.specs.Lent.{OfWriter}
use Rattle.buckfleet_engine_files.specs.Written.{AppendsSome, IsRun}
use Rattle.buckfleet_engine_text.specs.Report.{IsReport}
use Rattle.buckfleet_engine_input.specs.Harvest.{IsHarvest, AreNoSeats, IsFleetFault, HaveTooMany}

-- what else holds of the history: nothing if all harvesters work at once; if they take turns, the postings stand
-- in the order of these, and the prices are what the rule gives
abbrev pub IsInOrder : Order → (HistoryParts → Type 0) → HistoryParts → Type 0
IsInOrder AtOnce ByRule h = Unit {0}
IsInOrder InTurn ByRule h = AreInTurn h.postings × ByRule h

-- if harvesters take turns, a history is full only if there are too many stems
abbrev pub IsFullInOrder : Order → List (Option (List ℕ)) → EngineFault → Type 0
IsFullInOrder AtOnce stms fault = Unit {0}
IsFullInOrder InTurn stms fault = fault ≡ Full → HaveTooMany stms

-- a history of all files, in the order that is asked for, by a rule, or why there is none
abbrev pub AnswersFleet : ReadsApt → Order → (HistoryParts → Type 0) → Option (List ℕ) → List (Option (List ℕ))
    → Result HistoryParts EngineFault → Type 0
AnswersFleet reads order ByRule apt stms (Ok h) = IsHarvest reads apt stms h × IsInOrder order ByRule h
AnswersFleet reads order ByRule apt stms (Err fault) = IsFleetFault apt stms fault × IsFullInOrder order stms fault

-- the texts of a history were written: the journal, if one is asked for, and the report
pub record WroteAll (h : HistoryParts) (OfJournal : OfWriter) (old new : Option (List ℕ)) : Type 0 where
  pub report : List ℕ
  pub is_report : IsReport h report
  pub journal_whole : OfJournal (λ a b. Appends a b (journal_text h.sheets h.postings))
  pub report_whole : Appends old new report

-- some first bytes of them were written, and not all: of the journal and no report, or all of the journal and some
-- first bytes of the report
pub record WroteSome (h : HistoryParts) (OfJournal : OfWriter) (old new : Option (List ℕ)) : Type 0 where
  pub report : List ℕ
  pub is_report : IsReport h report
  pub stopped : (OfJournal (λ a b. AppendsSome a b (journal_text h.sheets h.postings)) × Keeps old new)
      ⊎ (OfJournal (λ a b. Appends a b (journal_text h.sheets h.postings)) × AppendsSome old new report)

-- how a run of a fleet ended, and what it wrote
pub record IsFleetRun (reads : ReadsApt) (order : Order) (ByRule : HistoryParts → Type 0) (apt : Option (List ℕ))
    (stms : List (Option (List ℕ))) (OfJournal : OfWriter) (old new : Option (List ℕ))
    (outcome : Result (Unit {0}) EngineFault) : Type 0 where
  pub seats : AreNoSeats (length stms) → outcome ≡ Err Seats
  pub run : IsRun (AnswersFleet reads order ByRule apt stms) (λ h. WroteAll h OfJournal old new)
      (λ h. WroteSome h OfJournal old new) (OfJournal Keeps × Keeps old new) outcome
