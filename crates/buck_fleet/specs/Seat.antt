-- A seat as clauses see it, and what calls change of it.
use Rattle.std.specs.Prelude.{◌≡◌, ℕ, ◌≤◌, List, [], ◌∷◌, ◌++◌, Option}
use Rattle.buck_board.specs.declared.seat.BoardSeat.{BoardSeat}
use Rattle.buck_board.specs.Board.{seen_by}
use Rattle.buck_fleet.specs.declared.fault.RunFault.{RunFault}
use Rattle.buck_book_postings.specs.declared.posting.Kept.{Kept}

pub record SeatParts : Type 0 where
  pub harvester : ℕ
  pub place : BoardSeat  -- its place at the board
  pub kept : List Kept  -- what it was answered, in order
  pub parts : ℕ  -- how many parts of the ledger it has
  pub stopped : Option RunFault  -- why its last run stopped before the end of its list

-- the newest version that the seat has seen
abbrev pub seen_of : SeatParts → ℕ
seen_of s = seen_by s.place

-- these postings are kept; harvester and parts are as before, and the version seen is no lower
pub record Keeps (before : SeatParts) (kept : List Kept) (after : SeatParts) : Type 0 where
  pub same_harvester : after.harvester ≡ before.harvester
  pub kept_are : after.kept ≡ kept
  pub same_parts : after.parts ≡ before.parts
  pub seen_rises : seen_of before ≤ seen_of after

-- nothing was kept
abbrev pub KeepsNothing : SeatParts → SeatParts → Type 0
KeepsNothing before after = Keeps before before.kept after

-- one posting more was kept, after all others
abbrev pub KeepsOne : SeatParts → Kept → SeatParts → Type 0
KeepsOne before k after = Keeps before (before.kept ++ k ∷ []) after
