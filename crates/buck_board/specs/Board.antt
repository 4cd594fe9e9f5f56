-- What clauses say of a board, its seats and its snapshots.
use Rattle.std.specs.Prelude.{◌≡◌, ℕ}
use Rattle.boxcar.specs.Table.{Shows}
use Rattle.buck_value.specs.Sheet.{SheetParts}
use Rattle.buck_board.specs.declared.board.Board.{Board}
use Rattle.buck_board.specs.declared.front.Front.{Front}
use Rattle.buck_board.specs.declared.put_up.PutUp.{PutUp}
use Rattle.buck_board.specs.declared.seat.BoardSeat.{BoardSeat}
use Rattle.buck_board.specs.declared.snapshot.Snapshot.{Snapshot}

-- the sheet that the board was opened with
abbrev pub base_of : Board → SheetParts
base_of b = b.base.value

-- the newest version that the seat has seen
abbrev pub seen_by : BoardSeat → ℕ
seen_by s = s.seen

-- the seat is one of this front
abbrev pub IsSeatAt : Front → BoardSeat → Type 0
IsSeatAt f s = s.place.table_id ≡ f.table.shared.table_id

-- the seat is one of this board
abbrev pub IsSeatOf : Board → BoardSeat → Type 0
IsSeatOf b s = IsSeatAt b.front s

-- the snapshot was taken from this board
abbrev pub IsSnapshotOf : Board → Snapshot → Type 0
IsSnapshotOf b s = s.board.now ≡ b

abbrev pub version_of : Snapshot → ℕ
version_of s = s.version

abbrev pub sheet_of : Snapshot → SheetParts
sheet_of s = s.sheet.now.value

-- a sheet was put up on this board, and which one
abbrev pub IsPutUpOn : Board → PutUp → Type 0
IsPutUpOn b p = Shows b.later p.pushed

abbrev pub sheet_put_up : PutUp → SheetParts
sheet_put_up p = p.pushed.value.value
