-- A fleet as clauses see it.
use Rattle.std.specs.Prelude.{ℕ}
use Rattle.buck_apt_instruction.specs.Instruction.{InstructionParts}
use Rattle.buck_board.specs.declared.board.Board.{Board}
use Rattle.buck_board.specs.Board.{IsSeatOf}
use Rattle.buck_fleet.specs.Seat.{SeatParts}

pub record FleetParts : Type 0 where
  pub instruction : InstructionParts  -- the one that it was opened with
  pub seats : ℕ  -- how many seats it has
  pub board : Board  -- where its sheets are put up

-- the seat is one of this fleet
abbrev pub IsSeatIn : FleetParts → SeatParts → Type 0
IsSeatIn f s = IsSeatOf f.board s.place
