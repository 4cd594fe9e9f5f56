-- A history in which a fault stands isn't lawful.
use Rattle.buck_book_replay.proofs.Words.{◌≡◌, ℕ, ◌+◌, ◌-◌, ◌≤◌, List, length, take, slice_get, Some, arith, common_steps, take_all, slice_get_within}
use Rattle.buck_book_replay.proofs.Words.{InstructionParts, IsInstruction, Posting, planned_version, HistoryParts, IsLawful, Holds, sheet_at, ends_take-le}
use Rattle.buck_book_replay.proofs.Words.{ReplayFault, version_at, Begins, IsSheetRight, IsSheetFault, IsCallFault, IsContentFault, IsPostingFault, IsNumberFault, IsFaultAtEnd, IsNumbered, IsOfVersion}
use Rattle.buck_book_replay.proofs.Words.{IsFirstFault}
use Rattle.buck_book_journal.proofs.Periods.{prices_right}

no_sheet_fault : (h : HistoryParts) (k : ℕ) (fault : ReplayFault) → IsSheetRight h k → IsSheetFault h k fault → ⊥
no_sheet_fault h k fault right wrong = grind (arith, common_steps)

no_call_fault : (i : InstructionParts) (before : List Posting) (x : Posting) (k : ℕ) (fault : ReplayFault)
    → IsNumbered before x → IsOfVersion i before x → IsCallFault i before x k fault → ⊥
no_call_fault i before x k fault n o wrong = grind (arith, common_steps)

no_content_fault : (i : InstructionParts) (sheets : List (List ℕ)) (x : Posting) (k : ℕ) (fault : ReplayFault)
    → Holds i sheets x → IsContentFault (sheet_at i sheets (planned_version x)) x k fault → ⊥
no_content_fault i sheets x k fault right wrong = grind (arith, common_steps)

no_number_fault : (sheets : List (List ℕ)) (last : ℕ) (fault : ReplayFault) → length sheets ≡ last + 1
    → IsNumberFault sheets last fault → ⊥
no_number_fault sheets last fault right wrong = grind (arith, common_steps)

module _ (h : HistoryParts) (v : IsInstruction h.instruction) (l : IsLawful h) where
  -- where a period of a lawful history begins, its sheet is right
  sheet_right : (k : ℕ) → k ≤ length h.postings → Begins h k → IsSheetRight h k
  sheet_right k le b = grind (arith, common_steps, prices_right, ends_take-le)

  no_posting_fault : (k : ℕ) (x : Posting) (fault : ReplayFault) → slice_get h.postings k ≡ Some x
      → IsPostingFault (sheet_at h.instruction h.sheets (version_at h k)) (take k h.postings) x k fault → ⊥
  no_posting_fault k x fault at wrong = grind (arith, no_call_fault, no_content_fault)

  no_end_fault : (fault : ReplayFault) → IsFaultAtEnd h (length h.postings) fault → ⊥
  no_end_fault fault wrong = grind (arith, take_all, no_number_fault, no_sheet_fault, sheet_right)

  pub no_first_fault : (fault : ReplayFault) → IsFirstFault h fault → ⊥
  no_first_fault fault v1 =
      grind (arith, no_sheet_fault, sheet_right, slice_get_within, no_posting_fault, no_end_fault)
