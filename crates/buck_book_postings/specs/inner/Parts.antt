-- What is handed out of a book.
use Rattle.std.specs.Prelude.{◌≡◌, ℕ, ◌≤◌, List, length}
use Rattle.buck_apt_instruction.specs.Instruction.{InstructionParts}
use Rattle.buck_value.specs.Sheet.{SheetParts}
use Rattle.buck_book_postings.specs.declared.posting.Posting.{Posting}
use Rattle.buck_book_postings.specs.Posting.{targets_of}
use Rattle.buck_book_postings.specs.Targets.{AreTargets}
use Rattle.buck_book_postings.specs.Counts.{AreClassCounts}
use Rattle.buck_book_postings.specs.History.{HistoryParts, IsLawful}
use Rattle.buck_book_postings.specs.Book.{sheets_from}
use Rattle.buck_book_postings.specs.declared.posting.TheConstants.{MOST_POSTINGS}

-- the history of these parts
abbrev pub history_of : InstructionParts → List (List ℕ) → List Posting → HistoryParts
history_of i sheets postings = record { instruction = i; sheets = sheets; postings = postings }

-- what stands beside a lawful history: its sheets, the targets in force at its end, and the class counts
pub record KeepsParts (h : HistoryParts) (sheets : List SheetParts) (targets counts : List ℕ) : Type 0 where
  pub lawful : IsLawful h
  pub sheets_are : sheets ≡ sheets_from 0 h.instruction h.sheets
  pub targets_are : targets ≡ targets_of h.instruction h.postings
  pub targets_valid : AreTargets h.instruction targets
  pub counts_are : AreClassCounts h.instruction h.postings counts
  pub few : length h.postings ≤ MOST_POSTINGS
