-- What is put up before a posting is added.
use Rattle.std.specs.Prelude.{◌≡◌, Option, Some, None, IsSomeAnd}
use Rattle.buck_value.specs.Sheet.{SheetParts}
use Rattle.buck_board.specs.declared.board.Board.{Board}
use Rattle.buck_board.specs.declared.put_up.PutUp.{PutUp}
use Rattle.buck_board.specs.Board.{IsPutUpOn, sheet_put_up}
use Rattle.buck_book_postings.specs.History.{HistoryParts, sheets_with}

-- a next sheet, if there is one, was put up on a board
abbrev pub IsShown : Board → Option SheetParts → Option PutUp → Type 0
IsShown b None shown = Unit {0}
IsShown b (Some sheet) shown = IsSomeAnd shown (λ p. IsPutUpOn b p × (sheet_put_up p ≡ sheet))

-- a history has no sheet more than before, or one that was put up
abbrev pub GrowsAsShown : Board → HistoryParts → HistoryParts → Option PutUp → Type 0
GrowsAsShown b before after shown =
    (next : Option SheetParts) × (after.sheets ≡ sheets_with before.sheets next) × IsShown b next shown
