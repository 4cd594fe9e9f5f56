-- What holds while a journal is replayed: of a posting that was passed, and which cuts are outvalued before a place.
use Rattle.std.specs.Prelude.{◌≡◌, ℕ, ◌<◌, ◌≤◌, Bool, true, false, List, take, slice_get, Option, Some, None}
use Rattle.buck_value.specs.declared.log.Log.{Log}
use Rattle.buck_value.specs.Sheet.{SheetParts}
use Rattle.buck_dp.specs.Best.{IsAdmissible, cutting_worth}
use Rattle.buck_book_postings.specs.declared.posting.Posting.{Posting}
use Rattle.buck_book_postings.specs.declared.posting.Posting.TheVariants.{Cut, Demand}
use Rattle.buck_book_postings.specs.Posting.{planned_version}
use Rattle.buck_book_postings.specs.History.{HistoryParts, sheet_at}
use Rattle.buck_book_postings.specs.Walk.{WalkParts}
use Rattle.buck_book_journal.specs.Journal.{version_at, Begins}
use Rattle.buck_book_replay.specs.Replay.{IsSheetRight}
use Rattle.buck_book_replay.specs.Order.{IsRightUnder}
use Rattle.buck_book_replay.specs.inner.Sheets.{IsPriced}

-- the history that a walk goes through, with the sheets of a journal
abbrev pub along : WalkParts → List (List ℕ) → HistoryParts
along w sheets = record { instruction = w.instruction; sheets = sheets; postings = w.postings }

-- the sheet in force after the first k postings
abbrev pub sheet_then : HistoryParts → ℕ → SheetParts
sheet_then h k = sheet_at h.instruction h.sheets (version_at h k)

-- the posting at a place may follow there, and if a period begins there its sheet is right
pub record IsPassed (h : HistoryParts) (at : ℕ) (x : Posting) : Type 0 where
  pub sheet : Begins h at → IsSheetRight h at
  pub posting : IsRightUnder (sheet_then h at) (take at h.postings) x

-- whether some admissible list of logs is worth more under a sheet than a cut says
abbrev pub IsOutvalued : SheetParts → Posting → Bool → Type 0
IsOutvalued s (Cut e) true =
    (others : List Log) × IsAdmissible s e.stem others × (e.worth < cutting_worth s e.stem others)
IsOutvalued s (Cut e) false =
    (others : List Log) → IsAdmissible s e.stem others → cutting_worth s e.stem others ≤ e.worth
IsOutvalued s (Demand d) true = ⊥
IsOutvalued s (Demand d) false = Unit {0}

-- whether a posting is doubtful: outvalued under the sheet of its version, if there is one
abbrev pub IsDoubtful : HistoryParts → Posting → Bool → Type 0
IsDoubtful h x true =
    IsPriced h.instruction h.sheets (planned_version x)
    → IsOutvalued (sheet_at h.instruction h.sheets (planned_version x)) x true
IsDoubtful h x false = IsOutvalued (sheet_at h.instruction h.sheets (planned_version x)) x false

-- no posting from a place to before another is
abbrev pub NoneDoubtful : HistoryParts → ℕ → ℕ → Type 0
NoneDoubtful h from to =
    (j : ℕ) (x : Posting) → from ≤ j → j < to → slice_get h.postings j ≡ Some x → IsDoubtful h x false

-- the posting at a place is, and none before it from another place on
pub record IsFirstDoubtful (h : HistoryParts) (from at : ℕ) : Type 0 where
  pub next : Posting
  pub there : slice_get h.postings at ≡ Some next
  pub wrong : IsDoubtful h next true
  pub before : NoneDoubtful h from at

-- the first place that is doubtful, from one on and before another, or that there is none
abbrev pub IsFound : HistoryParts → ℕ → ℕ → Option ℕ → Type 0
IsFound h from to None = NoneDoubtful h from to
IsFound h from to (Some at) = IsFirstDoubtful h from at
