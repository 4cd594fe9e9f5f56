-- The planner beside a book.
use Rattle.std.specs.Prelude.{◌≡◌, ◌<◌, length}
use Rattle.buck_value.specs.Sheet.{SheetParts}
use Rattle.buck_book_postings.specs.History.{HistoryParts, sheet_at}

-- a sheet is that of its version in a history
pub record IsSheetOf (h : HistoryParts) (s : SheetParts) : Type 0 where
  pub there : s.version < length h.sheets
  pub is : s ≡ sheet_at h.instruction h.sheets s.version
