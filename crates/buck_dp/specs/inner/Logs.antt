-- The logs of a stem at its points, what they bid, and who takes their wood.
use Rattle.std.specs.Prelude.{◌≡◌, ℕ, ◌+◌, ◌*◌, ◌<◌, ◌≤◌, List, get_or, slice_get, Some, ◌-◌, ◌/◌, ◌↔◌}
use Rattle.buck_dp.specs.inner.Words.{Log, IsAllowed, worth_of, log_of, top_of, end_of, AssortmentParts, InstructionParts, HasGradesOf, StemParts, stem_length, AssortmentSet, SheetParts, LogTypes, bit_at, TakesWood, WoodEntry}
use Rattle.buck_dp.specs.inner.LogTypes.{IsRank, log_type_at}
use Rattle.buck_dp.specs.inner.Bid.{BidParts, none}

-- the assortment at a place is among them
abbrev pub IsTaker : AssortmentSet → ℕ → Type 0
IsTaker takers a = bit_at takers.marks a ≡ 1

-- those that take wood of a species and of the grades of a mask
abbrev pub AreTakersOf : InstructionParts → ℕ → ℕ → AssortmentSet → Type 0
AreTakersOf i species grades takers = (a : ℕ) (x : AssortmentParts) → slice_get i.assortments a ≡ Some x
    → IsTaker takers a ↔ TakesWood x species grades

-- the kinds of wood that were met have their takers
abbrev pub AreWoodEntries : InstructionParts → List WoodEntry → Type 0
AreWoodEntries i kinds = (k : ℕ) (x : WoodEntry) → slice_get kinds k ≡ Some x
    → AreTakersOf i x.species x.grades x.set.takers

-- a stem under a sheet, with the log types, whose order settles ties
pub record GroundParts : Type 0 where
  pub sheet : SheetParts
  pub stem : StemParts
  pub types : LogTypes

abbrev pub ground_with : SheetParts → StemParts → LogTypes → GroundParts
ground_with sheet stem types = record { sheet = sheet; stem = stem; types = types }

-- how many points there are, the places at which a log may start: the multiples of the module, the butt among them
abbrev pub points_of : GroundParts → ℕ
points_of p = stem_length p.stem.samples / p.sheet.instruction.«module» + 1

-- how many places there are from which a cutting goes on: the points, and one past the last, because a trim may end
-- between
abbrev pub ends_of : GroundParts → ℕ
ends_of p = points_of p + 1

-- the first point at or after a place
abbrev pub point_after : ℕ → ℕ → ℕ
point_after step place = (place + (step - 1)) / step

-- the log of a rank's log type from point i
unfoldable pub log_at : GroundParts → ℕ → ℕ → Log
log_at p rank i =
    log_of (i * p.sheet.instruction.«module») (log_type_at p.types.list.items rank).length
    (log_type_at p.types.list.items rank).assortment

-- the point from which a cutting goes on after a log
abbrev pub next_after : GroundParts → Log → ℕ
next_after p g = point_after p.sheet.instruction.«module» (end_of p.sheet.instruction g)

-- the log of a bid's rank from point i is allowed and worth the bid; its top is point j, and e the first after its end
pub record IsLogAt (p : GroundParts) (i j e : ℕ) (bid : BidParts) : Type 0 where
  pub rank : IsRank p.types.list.items bid.rank
  pub allowed : IsAllowed p.sheet.instruction p.stem (log_at p bid.rank i)
  pub top : top_of (log_at p bid.rank i) ≡ j * p.sheet.instruction.«module»
  pub ends : next_after p (log_at p bid.rank i) ≡ e
  pub worth : bid.worth ≡ worth_of p.sheet p.stem (log_at p bid.rank i)
  pub later : i < j
  pub order : j ≤ e
  pub within : j < points_of p
  pub last : e < ends_of p

-- the bid at a place of a list
abbrev pub bid_at : List BidParts → ℕ → BidParts
bid_at bids k = get_or bids k none

-- from point k on there is no more worth than 70,000,000,000 for each millimetre
abbrev pub IsLow : GroundParts → ℕ → ℕ → Type 0
IsLow p k worth = worth + 70000000000 * (k * p.sheet.instruction.«module»)
    ≤ 70000000000 * (ends_of p * p.sheet.instruction.«module»)

-- an assortment takes the wood from point i to point t
abbrev pub TakesFrom : GroundParts → AssortmentParts → ℕ → ℕ → Type 0
TakesFrom p x i t = (x.species ≡ p.stem.species)
    × HasGradesOf p.stem.zones (i * p.sheet.instruction.«module») (t * p.sheet.instruction.«module») x.grades

-- these are the assortments that take it
abbrev pub HasTakers : GroundParts → AssortmentSet → ℕ → ℕ → Type 0
HasTakers p takers i t = (a : ℕ) (x : AssortmentParts) → slice_get p.sheet.instruction.assortments a ≡ Some x
    → (IsTaker takers a → TakesFrom p x i t) × (TakesFrom p x i t → IsTaker takers a)

-- no log with a top starts before a point
abbrev pub HasNoneOf : GroundParts → ℕ → ℕ → Type 0
HasNoneOf p point top = (i e : ℕ) (bid : BidParts) → i < point → IsLogAt p i top e bid → ⊥
