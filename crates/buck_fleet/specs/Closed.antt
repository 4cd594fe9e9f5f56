-- What a closed fleet hands out, and the headline: the history is one of a single thread, and holds each seat's
-- replies.
use Rattle.std.specs.Prelude.{◌≡◌, ◌≢◌, ℕ, ◌-◌, ◌<◌, ◌≤◌, List, [], length, map, take, All, slice_get, slice_index_or, Some}
use Rattle.std.specs.List.{sum_by}
use Rattle.std.specs.declared.vec.Vec.{Vec}
use Rattle.std.specs.declared.alloc.Global.{Global}
use Rattle.buck_apt_instruction.specs.Instruction.{InstructionParts}
use Rattle.buck_book_postings.specs.declared.posting.Posting.{Posting}
use Rattle.buck_book_postings.specs.History.{HistoryParts, IsLawful}
use Rattle.buck_book_postings.specs.Book.{IsFirst}
use Rattle.buck_book_postings.specs.Replies.{replies_of}
use Rattle.buck_fleet_close_fault.specs.declared.fault.CloseFault.{CloseFault}
use Rattle.buck_fleet_close_fault.specs.declared.fault.CloseFault.TheVariants.{Instruction, Calls}
use Rattle.buck_book_postings.specs.declared.posting.Kept.{Kept}
use Rattle.buck_fleet.specs.Seat.{SeatParts}

pub record ClosedParts : Type 0 where
  pub history : HistoryParts
  pub kept : List (List Kept)  -- the seats' kept lists, by harvester

-- the kept lists in a list of vectors
abbrev pub lists_of : List (Vec Kept Global) → List (List Kept)
lists_of = map (λ (v : Vec Kept Global). v.items)

-- a harvester's kept list
abbrev pub kept_by : ℕ → ClosedParts → List Kept
kept_by h c = slice_index_or c.kept (h - 1) []

-- whatever `close` answers: the kept lists are those of the n seats, and there are as many postings as they hold; each
-- cutting is the first of the best under the sheet of its version
pub record IsHandedOut (n : ℕ) (seats : List SeatParts) (c : ClosedParts) : Type 0 where
  pub lists : All (λ s. kept_by s.harvester c ≡ s.kept) seats
  pub number : length c.kept ≡ n
  pub total : length c.history.postings ≡ sum_by length c.kept
  pub first_best : (k : ℕ) (x : Posting) → slice_get c.history.postings k ≡ Some x → IsFirst c.history x

-- the headline: the history is lawful for the instruction that the fleet was opened with; it holds what each of the n
-- seats was answered, each reply once, at the position that was answered, in the seat's order; and it holds nothing
-- else
pub record IsOneHistory (i : InstructionParts) (n : ℕ) (seats : List SeatParts) (c : ClosedParts) : Type 0 where
  pub same_instruction : c.history.instruction ≡ i
  pub lawful : IsLawful c.history
  pub replies : (h : ℕ) → 0 < h → h ≤ n → kept_by h c ≡ replies_of h c.history
  pub handed_out : IsHandedOut n seats c

-- two lists differ at this number, from 1, and at none before: one of them may end there
pub record DifferFirstAt (number : ℕ) (these those : List Kept) : Type 0 where
  pub from_one : 0 < number
  pub like_before : take (number - 1) these ≡ take (number - 1) those
  pub unlike_there : slice_get these (number - 1) ≢ slice_get those (number - 1)

-- why a fleet doesn't close well: the instructions differ; or they don't, and a harvester's kept list and its postings
-- differ, those of the lowest such harvester, at the lowest such number
abbrev pub IsCloseFault : InstructionParts → ℕ → ClosedParts → CloseFault → Type 0
IsCloseFault i n c Instruction = c.history.instruction ≢ i
IsCloseFault i n c (Calls harvester number) =
    (c.history.instruction ≡ i)
    × (0 < harvester)
    × (harvester ≤ n)
    × DifferFirstAt number (kept_by harvester c) (replies_of harvester c.history)
    × ((h : ℕ) → 0 < h → h < harvester → kept_by h c ≡ replies_of h c.history)
