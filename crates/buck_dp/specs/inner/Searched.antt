-- The values of points while the search goes from the top end down.
use Rattle.std.specs.Prelude.{◌≡◌, ℕ, ◌+◌, ◌<◌, ◌≤◌, ◌≢◌, ◌⊎◌, List, length, get_or, slice_get, Some, ◌*◌, ◌-◌, ◌↔◌}
use Rattle.buck_dp.specs.inner.Logs.{GroundParts, ends_of, IsLogAt, IsLow, bid_at}
use Rattle.buck_dp.specs.inner.Bid.{BidParts, bid_of, none, IsAtMost, IsGreater, plus}
use Rattle.buck_dp.specs.inner.Words.{IsStem, stem_length, IsSheet, Cell}

-- a cell tells where its log and the next one start, from so far before its top on
abbrev pub IsPlaced : ℕ → Cell → Type 0
IsPlaced far c = (c.back + c.steps ≡ far) × (c.next ≡ far + c.rise)

-- the log of a cell with a top fits there
abbrev pub IsFitting : GroundParts → ℕ → Cell → Type 0
IsFitting p top c = c.trim + top * p.sheet.instruction.«module» ≤ stem_length p.stem.samples

-- so do those of all cells, which have some steps and are so placed
abbrev pub AllFit : GroundParts → ℕ → ℕ → List Cell → Type 0
AllFit p far top cells = (k : ℕ) (c : Cell) → slice_get cells k ≡ Some c
    → (0 < c.steps) × IsFitting p top c × IsPlaced far c

-- the log of a cell with a top fits there, and starts at point `first` or later, and before `stop`
abbrev pub IsNear : GroundParts → ℕ → ℕ → ℕ → Cell → Type 0
IsNear p top first stop c = (c.steps + first ≤ top) × (top < c.steps + stop) × IsFitting p top c

-- those are the cells of a length, in steps, from some on and below others, whose trim is within the room in mm
abbrev pub AreChosen : GroundParts → ℕ → ℕ → ℕ → ℕ → ℕ → ℕ → List Cell → Type 0
AreChosen p top first stop from past room cells = (k : ℕ) (c : Cell) → slice_get cells k ≡ Some c
    → IsNear p top first stop c ↔ ((from ≤ c.steps) × (c.steps < past) × (c.trim ≤ room))

-- a cell bids no less for logs as long, or more worth for shorter ones
abbrev pub Meets : Cell → ℕ → BidParts → Type 0
Meets c steps bid = ((c.steps ≡ steps) × IsAtMost bid c.bid) ⊎ ((c.steps < steps) × (bid.worth < c.bid.worth))

-- the cells that fit are bids of logs with this top from each start behind one from point `first` on and before `stop`;
-- and for each log from these one of the cells bids no less, or it starts later and bids more worth, and leaves no less
pub record ServesRange (p : GroundParts) (top first stop : ℕ) (cells : List Cell) : Type 0 where
  pub real : (k : ℕ) (c : Cell) → slice_get cells k ≡ Some c → IsFitting p top c
      → (i start : ℕ) → first ≤ i → i < stop → i ≤ start → start + c.steps ≡ top
      → IsLogAt p start top (top + c.rise) c.bid
  pub served : (i e : ℕ) (bid : BidParts) → first ≤ i → i < stop → IsLogAt p i top e bid
      → (k : ℕ) × (c : Cell) × (slice_get cells k ≡ Some c) × IsFitting p top c × Meets c (top - i) bid
      × (top + c.rise ≤ e)

-- a settled point: its value has the worth of the best from there on, and its choice is the rank of the first log of
-- that, or 0 if none starts there
pub record IsSettled (p : GroundParts) (values : List BidParts) (choices : List ℕ) (k : ℕ) : Type 0 where
  pub even : (bid_at values k).rank ≡ 0
  pub falls : (j : ℕ) → k ≤ j → (bid_at values j).worth ≤ (bid_at values k).worth
  pub each : (j e : ℕ) (bid : BidParts) → IsLogAt p k j e bid
      → IsAtMost (plus bid (bid_at values e)) (bid_of (bid_at values k).worth (get_or choices k 0))
  pub one : (((bid_at values k).worth ≡ (bid_at values (k + 1)).worth) × (get_or choices k 0 ≡ 0))
      ⊎ ((j : ℕ) × (e : ℕ) × (bid : BidParts) × IsLogAt p k j e bid
      × ((bid_at values k).worth ≡ bid.worth + (bid_at values e).worth) × (get_or choices k 0 ≡ bid.rank))

-- the value of point i is at least so much, or that of a later point is worth more
abbrev pub Reaches : List BidParts → ℕ → BidParts → Type 0
Reaches values i bid = IsAtMost bid (bid_at values i)
    ⊎ ((k : ℕ) × (i < k) × (bid.worth < (bid_at values k).worth))

-- the value of point i is that of no log, or what one with its top at point `from` or later brings with what follows
abbrev pub IsMade : GroundParts → List BidParts → ℕ → ℕ → Type 0
IsMade p values from i = (bid_at values i ≡ none)
    ⊎ ((j : ℕ) × (e : ℕ) × (bid : BidParts) × (from ≤ j) × IsLogAt p i j e bid
    × (bid_at values i ≡ plus bid (bid_at values e)))

-- a search of a stem under a valid sheet is right so far: the points from `from` on are settled; to those before it the
-- logs are offered that have their top behind point `from`, and those that have it there and start at point `stop` or
-- later
pub record IsSearch (p : GroundParts) (values : List BidParts) (choices : List ℕ) (from stop : ℕ) : Type 0 where
  pub valid : IsSheet p.sheet
  pub sound : IsStem p.stem
  pub below : stop ≤ from
  pub within : from < ends_of p
  pub number : length values ≡ ends_of p
  pub room : length choices ≡ ends_of p
  pub low : (k : ℕ) → k < ends_of p → IsLow p k (bid_at values k).worth
  pub settled : (k : ℕ) → from ≤ k → IsSettled p values choices k
  pub each : (i j e : ℕ) (bid : BidParts) → i < from → from ≤ j → (from < j) ⊎ (stop ≤ i) → IsLogAt p i j e bid
      → Reaches values i (plus bid (bid_at values e))
  pub one : (i : ℕ) → i < from → IsMade p values from i

-- a bid can be offered to a point before another: what this one brings has no rank and is low enough
pub record CanOffer (start next : ℕ) (bid : BidParts) (values : List BidParts) : Type 0 where
  pub inside : start < length values
  pub there : next < length values
  pub even : (bid_at values next).rank ≡ 0
  pub low : bid.worth + (bid_at values next).worth ≤ 4000000000000000

-- a bid of a log that starts at a point is offered there, with what the point brings where the next one can start
pub record IsOffered (start next : ℕ) (bid : BidParts) (old new : List BidParts) : Type 0 where
  pub number : length new ≡ length old
  pub others : (i : ℕ) → i ≢ start → bid_at new i ≡ bid_at old i
  pub raised : IsGreater (bid_at old start) (plus bid (bid_at old next)) (bid_at new start)

-- of the cells whose logs with the last top of a search start in one range more, the first n are offered to its values
pub record AreOffered (p : GroundParts) (choices : List ℕ) (top first stop : ℕ) (cells : List Cell) (n : ℕ)
    (values : List BidParts) : Type 0 where
  pub search : IsSearch p values choices top stop
  pub range : ServesRange p top first stop cells
  pub order : first ≤ stop
  pub done : (k : ℕ) (c : Cell) → k < n → slice_get cells k ≡ Some c → IsNear p top first stop c
      → (i : ℕ) → i + c.steps ≡ top → IsAtMost (plus c.bid (bid_at values (top + c.rise))) (bid_at values i)
