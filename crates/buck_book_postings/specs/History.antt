-- Histories, and which are lawful: facts on finished lists.
use Rattle.std.specs.Prelude.{◌≡◌, ℕ, ◌+◌, List, [], ◌∷◌, ◌++◌, true, length, take, slice_index, slice_index_or, slice_get, Option, Some, None}
use Rattle.buck_apt_instruction.specs.declared.class.Class.{Class}
use Rattle.buck_apt_instruction.specs.Instruction.{InstructionParts, AssortmentParts, IsClass, classes, index_of}
use Rattle.buck_rule.specs.declared.standing.Standing.{Standing}
use Rattle.buck_rule.specs.Relation.{Meets}
use Rattle.buck_value.specs.Sheet.{SheetParts, sheet_of, base_prices}
use Rattle.buck_dp.specs.Best.{IsBest, cutting_worth}
use Rattle.buck_book_postings.specs.declared.posting.Posting.{Posting}
use Rattle.buck_book_postings.specs.declared.posting.Posting.TheVariants.{Cut, Demand}
use Rattle.buck_book_postings.specs.Posting.{harvester_of, number_of, planned_version, is_end, ends_of, cuts_since_end, targets_of}
use Rattle.buck_book_postings.specs.Targets.{AreTargets, targets_sum}
use Rattle.buck_book_postings.specs.Counts.{count_of, assortment_count_of, calls_of}

pub record HistoryParts : Type 0 where
  pub instruction : InstructionParts
  pub sheets : List (List ℕ)  -- the prices of each sheet, by version
  pub postings : List Posting  -- in the order of their commits

-- how a class of an assortment stands, by targets of all classes, and by how many logs were cut in the class and in
-- the assortment
abbrev pub standing_at : InstructionParts → AssortmentParts → Class → List ℕ → ℕ → ℕ → Standing
standing_at i a c targets count counts = record {
  base = slice_index (base_prices i) (index_of i c);
  limit = i.limit;
  target = slice_index targets (index_of i c);
  targets = targets_sum i a c.assortment targets;
  count = count;
  counts = counts;
}

-- how a class of an assortment stands after some postings
abbrev pub standing_of : InstructionParts → AssortmentParts → Class → List Posting → Standing
standing_of i a c ps =
    standing_at i a c (targets_of i ps) (count_of i c ps) (assortment_count_of c.assortment ps)

-- one price for each class, each in the price relation with the targets in force and the counts after some postings
pub record PricesMeet (i : InstructionParts) (ps : List Posting) (prices : List ℕ) : Type 0 where
  pub one_each : length prices ≡ classes i
  pub each_meets : (c : Class) (there : IsClass i c)
      → Meets (standing_of i there.assortment c ps) (slice_index prices (index_of i c))

-- the prices of a version
abbrev pub prices_at : List (List ℕ) → ℕ → List ℕ
prices_at sheets version = slice_index_or sheets version []

-- the sheet of a version
abbrev pub sheet_at : InstructionParts → List (List ℕ) → ℕ → SheetParts
sheet_at i sheets version = sheet_of version i (prices_at sheets version)

-- a cut is best under the sheet of its version, and says its worth; a demand's targets are valid
abbrev pub Holds : InstructionParts → List (List ℕ) → Posting → Type 0
Holds i sheets (Cut e) =
    IsBest (sheet_at i sheets e.version) e.stem e.logs
    × (e.worth ≡ cutting_worth (sheet_at i sheets e.version) e.stem e.logs)
Holds i sheets (Demand d) = AreTargets i d.targets

-- a posting may follow some postings
pub record Follows (i : InstructionParts) (sheets : List (List ℕ)) (before : List Posting) (x : Posting) : Type 0 where
  pub number_is_next : number_of x ≡ calls_of (harvester_of x) before + 1
  pub version_in_force : planned_version x ≡ ends_of i before
  pub holds : Holds i sheets x

-- a posting that follows some postings is an end
abbrev pub IsEnd : InstructionParts → List Posting → Posting → Type 0
IsEnd i before x = is_end i.period (cuts_since_end i before) x ≡ true

-- the prices that come into force after the first k postings, if the posting that follows them is an end
abbrev pub prices_after : HistoryParts → ℕ → List ℕ
prices_after h k = prices_at h.sheets (ends_of h.instruction (take k h.postings) + 1)

-- a lawful history: each posting may follow those before it; there is one sheet more than ends, the first has the base
-- prices, and the prices of each that comes after an end keep the price relation there
pub record IsLawful (h : HistoryParts) : Type 0 where
  pub postings_follow : (k : ℕ) (x : Posting)
      → slice_get h.postings k ≡ Some x
      → Follows h.instruction h.sheets (take k h.postings) x
  pub sheets_number : length h.sheets ≡ ends_of h.instruction h.postings + 1
  pub base_sheet : prices_at h.sheets 0 ≡ base_prices h.instruction
  pub sheets_meet : (k : ℕ) (x : Posting)
      → slice_get h.postings k ≡ Some x
      → IsEnd h.instruction (take k h.postings) x
      → PricesMeet h.instruction (take (k + 1) h.postings) (prices_after h k)

-- the version in force: how many ends there were
abbrev pub version_of : HistoryParts → ℕ
version_of h = ends_of h.instruction h.postings

-- the sheet in force
abbrev pub in_force : HistoryParts → SheetParts
in_force h = sheet_at h.instruction h.sheets (version_of h)

-- the prices of the sheets with the next one, if there is one
abbrev pub sheets_with : List (List ℕ) → Option SheetParts → List (List ℕ)
sheets_with sheets None = sheets
sheets_with sheets (Some s) = sheets ++ s.prices ∷ []

-- a history with one posting more, and the next sheet if there is one
abbrev pub history_with : HistoryParts → Posting → Option SheetParts → HistoryParts
history_with h x next = record {
  instruction = h.instruction;
  sheets = sheets_with h.sheets next;
  postings = h.postings ++ x ∷ [];
}

-- the first postings of a history, with the sheets that came up to there
abbrev pub first_of : ℕ → HistoryParts → HistoryParts
first_of k h = record {
  instruction = h.instruction;
  sheets = take (ends_of h.instruction (take k h.postings) + 1) h.sheets;
  postings = take k h.postings;
}

-- the sheet that comes after a posting that is an end
pub record IsNextSheet (h : HistoryParts) (x : Posting) (s : SheetParts) : Type 0 where
  pub version_is_next : s.version ≡ version_of h + 1
  pub same_instruction : s.instruction ≡ h.instruction
  pub prices_meet : PricesMeet h.instruction (h.postings ++ x ∷ []) s.prices
