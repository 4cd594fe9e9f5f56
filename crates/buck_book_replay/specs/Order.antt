-- How far a journal is in order: right, but that other logs may be worth more than those of a cut.
use Rattle.std.specs.Prelude.{◌≡◌, ℕ, ◌+◌, ◌<◌, ◌⊎◌, List, length, take, slice_get, Some, Result, OnOk, IfErr}
use Rattle.buck_value.specs.Sheet.{SheetParts}
use Rattle.buck_dp.specs.Best.{IsAdmissible, cutting_worth}
use Rattle.buck_book_postings.specs.declared.posting.Posting.{Posting}
use Rattle.buck_book_postings.specs.declared.posting.Posting.TheVariants.{Cut, Demand}
use Rattle.buck_book_postings.specs.Posting.{planned_version}
use Rattle.buck_book_postings.specs.Targets.{AreTargets}
use Rattle.buck_book_postings.specs.History.{HistoryParts, sheet_at}
use Rattle.buck_book_journal.specs.declared.replay_fault.ReplayFault.{ReplayFault}
use Rattle.buck_book_journal.specs.Journal.{version_at, Begins}
use Rattle.buck_book_replay.specs.Replay.{IsSheetRight, IsNumbered, IsOfVersion, IsFaultAt, IsFaultAtEnd}

-- a posting says what is right under a sheet, whether or not other logs are worth more than its own
abbrev pub HoldsUnder : SheetParts → Posting → Type 0
HoldsUnder s (Cut e) = IsAdmissible s e.stem e.logs × (e.worth ≡ cutting_worth s e.stem e.logs)
HoldsUnder s (Demand d) = AreTargets s.instruction d.targets

-- it may follow some postings under the sheet in force
pub record IsRightUnder (s : SheetParts) (before : List Posting) (x : Posting) : Type 0 where
  pub numbered : IsNumbered before x
  pub of_version : IsOfVersion s.instruction before x
  pub holds : HoldsUnder s x

-- all is right before place k, but that other logs may be worth more than those of a cut: the sheet of each period that
-- begins, and each posting under the sheet of its version
pub record IsInOrderBefore (h : HistoryParts) (k : ℕ) : Type 0 where
  pub sheets : (j : ℕ) → j < k → Begins h j → IsSheetRight h j
  pub postings : (j : ℕ) (x : Posting)
      → j < k
      → slice_get h.postings j ≡ Some x
      → IsRightUnder (sheet_at h.instruction h.sheets (planned_version x)) (take j h.postings) x

-- after the last posting all is right
pub record IsEndRight (h : HistoryParts) (k : ℕ) : Type 0 where
  pub number : length h.sheets ≡ version_at h k + 1
  pub last_sheet : Begins h k → IsSheetRight h k

-- this is wrong at a place: with the posting there, or else with the end
abbrev pub IsWrongAt : HistoryParts → ℕ → ReplayFault → Type 0
IsWrongAt h k fault =
    ((next : Posting) × (slice_get h.postings k ≡ Some next) × IsFaultAt h k next fault)
    ⊎ ((k ≡ length h.postings) × IsFaultAtEnd h k fault)

-- a history is in order up to a place, and this comes of it there: the place is the end, and right; or that is wrong
pub record IsOrdered (h : HistoryParts) (until : ℕ) (outcome : Result (Unit {0}) ReplayFault) : Type 0 where
  pub right : IsInOrderBefore h until
  pub ended : OnOk outcome ((until ≡ length h.postings) × IsEndRight h until)
  pub stopped : IfErr outcome (IsWrongAt h until)
