-- Why a journal isn't lawful: the first fault that stands in it.
use Rattle.std.specs.Prelude.{◌≡◌, ◌≢◌, ℕ, ◌+◌, ◌<◌, ◌≤◌, ◌⊎◌, List, length, take, slice_get, Some}
use Rattle.buck_apt_instruction.specs.Instruction.{InstructionParts, classes}
use Rattle.buck_value.specs.declared.log.Log.{Log}
use Rattle.buck_value.specs.Sheet.{SheetParts}
use Rattle.buck_dp.specs.Best.{IsAdmissible, cutting_worth}
use Rattle.buck_book_postings.specs.declared.posting.Posting.{Posting}
use Rattle.buck_book_postings.specs.declared.posting.Posting.TheVariants as posting
use Rattle.buck_book_postings.specs.Entry.{EntryParts}
use Rattle.buck_book_postings.specs.Posting.{harvester_of, number_of, planned_version, ends_of}
use Rattle.buck_book_postings.specs.Targets.{AreTargets}
use Rattle.buck_book_postings.specs.Counts.{calls_of}
use Rattle.buck_book_postings.specs.History.{HistoryParts, Follows, PricesMeet, sheet_at}
use Rattle.buck_book_postings.specs.Walk.{IsWrongPrice}
use Rattle.buck_book_journal.specs.Journal.{version_at, prices_then, Begins}
use Rattle.buck_book_journal.specs.declared.replay_fault.ReplayFault.{ReplayFault}
use Rattle.buck_book_journal.specs.declared.replay_fault.ReplayFault.TheVariants.{Sheet, Price, Numbering, Version, Cutting, Worth, Outvalued, Targets}

-- the sheet in force there is in the journal, with one price for each class
abbrev pub HasSheet : HistoryParts → ℕ → Type 0
HasSheet h k =
    (version_at h k < length h.sheets) × (length (prices_then h k) ≡ classes h.instruction)

-- and its prices keep the price relation there
abbrev pub IsSheetRight : HistoryParts → ℕ → Type 0
IsSheetRight h k = HasSheet h k × PricesMeet h.instruction (take k h.postings) (prices_then h k)

-- what is wrong with the sheet in force there
abbrev pub IsSheetFault : HistoryParts → ℕ → ReplayFault → Type 0
IsSheetFault h k (Sheet version) = (version ≡ version_at h k) × (HasSheet h k → ⊥)
IsSheetFault h k (Price version class) =
    (version ≡ version_at h k)
    × HasSheet h k
    × IsWrongPrice h.instruction (take k h.postings) (prices_then h k) class
IsSheetFault h k other = ⊥

-- what is wrong with the cut at a place under a sheet: its logs aren't an admissible cutting, else its worth isn't
-- theirs, else some admissible list of logs is worth more
abbrev pub IsCutFault : SheetParts → EntryParts → ℕ → ReplayFault → Type 0
IsCutFault s e k (Cutting at) = (at ≡ k) × (IsAdmissible s e.stem e.logs → ⊥)
IsCutFault s e k (Worth at) =
    (at ≡ k) × IsAdmissible s e.stem e.logs × (e.worth ≢ cutting_worth s e.stem e.logs)
IsCutFault s e k (Outvalued at) =
    (at ≡ k)
    × IsAdmissible s e.stem e.logs
    × (e.worth ≡ cutting_worth s e.stem e.logs)
    × ((others : List Log)
    × IsAdmissible s e.stem others
    × (cutting_worth s e.stem e.logs < cutting_worth s e.stem others))
IsCutFault s e k other = ⊥

-- what is wrong with new targets
abbrev pub IsDemandFault : InstructionParts → List ℕ → ℕ → ReplayFault → Type 0
IsDemandFault i targets k (Targets at) = (at ≡ k) × (AreTargets i targets → ⊥)
IsDemandFault i targets k other = ⊥

-- what is wrong with what a posting at a place says under a sheet
abbrev pub IsContentFault : SheetParts → Posting → ℕ → ReplayFault → Type 0
IsContentFault s (posting.Cut e) k fault = IsCutFault s e k fault
IsContentFault s (posting.Demand d) k fault = IsDemandFault s.instruction d.targets k fault

-- its number is its harvester's next one, and its version the one in force
abbrev pub IsNumbered : List Posting → Posting → Type 0
IsNumbered before x = number_of x ≡ calls_of (harvester_of x) before + 1

abbrev pub IsOfVersion : InstructionParts → List Posting → Posting → Type 0
IsOfVersion i before x = planned_version x ≡ ends_of i before

-- what is wrong with these: the number, else the version
abbrev pub IsCallFault : InstructionParts → List Posting → Posting → ℕ → ReplayFault → Type 0
IsCallFault i before x k (Numbering at) = (at ≡ k) × (IsNumbered before x → ⊥)
IsCallFault i before x k (Version at) = (at ≡ k) × IsNumbered before x × (IsOfVersion i before x → ⊥)
IsCallFault i before x k other = ⊥

-- what is wrong with a posting at a place: its number or version, else what it says under the sheet in force
abbrev pub IsPostingFault : SheetParts → List Posting → Posting → ℕ → ReplayFault → Type 0
IsPostingFault s before x k fault =
    IsCallFault s.instruction before x k fault
    ⊎ (IsNumbered before x × IsOfVersion s.instruction before x × IsContentFault s x k fault)

-- what is wrong at the posting at place k: if a period begins there its sheet, else the posting
abbrev pub IsFaultAt : HistoryParts → ℕ → Posting → ReplayFault → Type 0
IsFaultAt h k x fault =
    (Begins h k × IsSheetFault h k fault)
    ⊎ ((Begins h k → IsSheetRight h k)
    × IsPostingFault (sheet_at h.instruction h.sheets (version_at h k)) (take k h.postings) x k fault)

-- there is a sheet too few or too many: the first that is missing, or the first too many
abbrev pub IsNumberFault : List (List ℕ) → ℕ → ReplayFault → Type 0
IsNumberFault sheets last (Sheet version) =
    ((length sheets ≤ last) × (version ≡ length sheets))
    ⊎ ((last + 1 < length sheets) × (version ≡ last + 1))
IsNumberFault sheets last other = ⊥

-- what is wrong after the last posting: the number of sheets, else, if a period begins there, the last sheet
abbrev pub IsFaultAtEnd : HistoryParts → ℕ → ReplayFault → Type 0
IsFaultAtEnd h k fault =
    IsNumberFault h.sheets (version_at h k) fault
    ⊎ ((length h.sheets ≡ version_at h k + 1) × Begins h k × IsSheetFault h k fault)

-- all is right before place k: the sheet of each period that begins, and each posting
pub record IsRightBefore (h : HistoryParts) (k : ℕ) : Type 0 where
  pub sheets : (j : ℕ) → j < k → Begins h j → IsSheetRight h j
  pub postings : (j : ℕ) (x : Posting)
      → j < k → slice_get h.postings j ≡ Some x → Follows h.instruction h.sheets (take j h.postings) x

-- the first fault: all is right before a place, and at the posting there it isn't
pub record IsMet (h : HistoryParts) (fault : ReplayFault) : Type 0 where
  pub at : ℕ
  pub next : Posting
  pub there : slice_get h.postings at ≡ Some next
  pub right : IsRightBefore h at
  pub wrong : IsFaultAt h at next fault

-- or all postings are right, and after the last it isn't
pub record IsMetAtEnd (h : HistoryParts) (fault : ReplayFault) : Type 0 where
  pub right : IsRightBefore h (length h.postings)
  pub wrong : IsFaultAtEnd h (length h.postings) fault

abbrev pub IsFirstFault : HistoryParts → ReplayFault → Type 0
IsFirstFault h fault = IsMet h fault ⊎ IsMetAtEnd h fault
