-- All seats of a fleet.
use Rattle.std.specs.Prelude.{◌≡◌, ℕ, ◌+◌, ◌<◌, ◌≤◌, ◌==◌, List, [], length, All, slice_index_or}
use Rattle.std.specs.List.{sum_by, count_by}
use Rattle.buck_board.specs.declared.board.Board.{Board}
use Rattle.buck_board.specs.Board.{IsSeatOf}
use Rattle.buck_fleet.specs.Seat.{SeatParts, seen_of}

-- how many seats are a harvester's
abbrev pub seats_of : ℕ → List SeatParts → ℕ
seats_of h seats = count_by (λ s. s.harvester == h) seats

-- the parts of the ledger that the seats have together
abbrev pub parts_of : List SeatParts → ℕ
parts_of seats = sum_by (λ s. s.parts) seats

-- the harvesters are 1 to n, each once, in any order
pub record IsCrew (n : ℕ) (seats : List SeatParts) : Type 0 where
  pub within : All (λ s. (0 < s.harvester) × (s.harvester ≤ n)) seats
  pub once : (h : ℕ) → 0 < h → h ≤ n → seats_of h seats ≡ 1

-- the seat of harvester i + 1 that nobody has used
pub record IsNew (b : Board) (i : ℕ) (s : SeatParts) : Type 0 where
  pub harvester_is : s.harvester ≡ i + 1
  pub nothing_kept : s.kept ≡ []
  pub nothing_seen : seen_of s ≡ 0
  pub of_board : IsSeatOf b s.place

-- the seats of a new fleet: n of them, the harvesters from 1 on in order, with all 64 parts of the ledger; so they are
-- its crew
pub record AreOpened (b : Board) (n : ℕ) (seats : List SeatParts) : Type 0 where
  pub number : length seats ≡ n
  pub each : (i : ℕ) (d : SeatParts) → i < n → IsNew b i (slice_index_or seats i d)
  pub all_parts : parts_of seats ≡ 64
  pub crew : IsCrew n seats
