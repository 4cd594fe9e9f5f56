-- What a run of all seats leaves in them.
use Rattle.std.specs.Prelude.{◌≡◌, ℕ, ◌<◌, ◌≤◌, List, [], ◌++◌, length, map, take, Option, Some, None, All, slice_get, slice_index_or}
use Rattle.std.specs.declared.sync.Arc.{Arc}
use Rattle.std.specs.declared.vec.Vec.{Vec}
use Rattle.std.specs.declared.alloc.Global.{Global}
use Rattle.buck_stem_shape.specs.declared.stem.Stem.{Stem}
use Rattle.buck_stem_shape.specs.Stem.{StemParts}
use Rattle.buck_book_postings.specs.declared.posting.Posting.{Posting}
use Rattle.buck_book_postings.specs.declared.posting.Posting.TheVariants.{Cut, Demand}
use Rattle.buck_book_postings.specs.Posting.{harvester_of}
use Rattle.buck_book_postings.specs.Replies.{stem_cut, stems_at}
use Rattle.buck_fleet.specs.declared.fault.RunFault.{RunFault}
use Rattle.buck_book_postings.specs.declared.posting.Kept.{Kept}
use Rattle.buck_fleet.specs.Seat.{SeatParts, Keeps}
use Rattle.buck_fleet.specs.Fleet.{FleetParts, IsSeatIn}
use Rattle.buck_fleet.specs.Crew.{IsCrew, parts_of}
use Rattle.buck_fleet.specs.Reply.{IsFirstBestSomewhere}

-- a cut, by the first of the best cuttings under some sheet of its version
abbrev pub IsFirstBestCut : Posting → Type 0
IsFirstBestCut (Cut e) = IsFirstBestSomewhere e
IsFirstBestCut (Demand d) = ⊥

-- the first n stems were cut, in order: one reply for each was kept, the seat's own and the first of the best, and nothing
-- else
pub record HasCut (n : ℕ) (stems : List StemParts) (before after : SeatParts) : Type 0 where
  pub more : List Kept
  pub kept : Keeps before (before.kept ++ more) after
  pub within : n ≤ length stems
  pub each : map (λ k. stem_cut k.entry) more ≡ map Some (take n stems)
  pub own : All (λ k. harvester_of k.entry ≡ before.harvester) more
  pub best : All (λ k. IsFirstBestCut k.entry) more

-- stems from the beginning of the list were cut; if nothing stopped the run, all of them, and if something did,
-- not all
pub record HasRun (stems : List StemParts) (before after : SeatParts) : Type 0 where
  pub beginning : (n : ℕ) × HasCut n stems before after
  pub whole : after.stopped ≡ None → HasCut (length stems) stems before after
  pub part : (fault : RunFault) → after.stopped ≡ Some fault → (n : ℕ) × (n < length stems) × HasCut n stems before after

-- each seat has run through the list at its place; the seats stand in the same order, are of the fleet as before, and
-- have together what they had of the ledger
pub record HaveRun (f : FleetParts) (lists : List (Vec (Arc Stem Global) Global))
    (before after : List SeatParts) : Type 0 where
  pub number : length after ≡ length before
  pub of_fleet : All (IsSeatIn f) after
  pub same_crew : (n : ℕ) → IsCrew n before → IsCrew n after
  pub same_parts : parts_of after ≡ parts_of before
  pub runs : (i : ℕ) (d : SeatParts) → i < length before
      → HasRun (stems_at lists i) (slice_index_or before i d) (slice_index_or after i d)

-- what stopped the lowest harvester that was stopped
pub record IsFirstStop (seats : List SeatParts) (fault : RunFault) : Type 0 where
  pub place : ℕ
  pub seat : SeatParts
  pub is_there : slice_get seats place ≡ Some seat
  pub stopped : seat.stopped ≡ Some fault
  pub lowest : All (λ s. s.harvester < seat.harvester → s.stopped ≡ None) seats
