-- What takers bid at a diameter, whatever the stem, and candidate lists and rows of that.
use Rattle.std.specs.Prelude.{◌≡◌, ◌≢◌, ℕ, ◌+◌, ◌-◌, ◌*◌, ◌<◌, ◌≤◌, ◌⊎◌, List, All, Contains, map, slice_get, slice_index, Some}
use Rattle.buck_dp.specs.inner.Words.{InstructionParts, classes, index_of, AssortmentParts, Class, SheetParts, IsSheet, price_of, sheet_of, volume, worth_at, Term, Candidate, ListKey, Band, HIGHEST_RANK, HIGHEST_PRICE, IsBought, row_at}
use Rattle.buck_dp.specs.inner.Words.{column_of, LogType, AssortmentSet, Cell}
use Rattle.buck_dp.specs.inner.Logs.{point_after, IsTaker}
use Rattle.buck_dp.specs.inner.Bid.{BidParts, bid_of}
use Rattle.buck_dp.specs.inner.LogTypes.{IsRank, log_type_at}
use Rattle.buck_dp.specs.inner.Searched.{IsPlaced, Meets}

-- the class of an assortment's logs of a type with a top diameter
abbrev pub class_for : AssortmentParts → LogType → ℕ → Class
class_for x o d = record { assortment = o.assortment; row = row_at x d; column = column_of x o.length }

-- what they are worth under a sheet, in millionths of the price unit
abbrev pub worth_for : SheetParts → AssortmentParts → LogType → ℕ → ℕ
worth_for s x o d = worth_at x.price_kind (price_of s (class_for x o d)) (volume d o.length)

-- the assortment has them, and a price for them
abbrev pub IsPriced : AssortmentParts → LogType → ℕ → Type 0
IsPriced x o d = Contains x.lengths o.length × IsBought x (column_of x o.length) d

-- the diameters of a band
abbrev pub IsInBand : Band → ℕ → Type 0
IsInBand band d = (band.thinnest ≤ d) × (d < band.past)

-- the assortment has a price for them at each diameter of a band, that of one class
pub record IsClassAt (i : InstructionParts) (x : AssortmentParts) (o : LogType) (band : Band) (class : ℕ) : Type 0 where
  pub within : class < classes i
  pub index : (d : ℕ) → IsInBand band d → index_of i (class_for x o d) ≡ class
  pub priced : (d : ℕ) → IsInBand band d → IsPriced x o d

-- it has no price for them there
abbrev pub HasNoPrice : AssortmentParts → LogType → Band → Type 0
HasNoPrice x o band = (d : ℕ) → IsInBand band d → IsPriced x o d → ⊥

-- a taker bids so much for logs of so many steps and a top diameter, with its trim, by the log type of the bid's rank
pub record IsTakersBid (s : SheetParts) (types : List LogType) (takers : AssortmentSet) (d steps trim : ℕ)
    (bid : BidParts) : Type 0 where
  pub rank : IsRank types bid.rank
  pub taker : IsTaker takers (log_type_at types bid.rank).assortment
  pub assortment : AssortmentParts
  pub exists : slice_get s.instruction.assortments (log_type_at types bid.rank).assortment ≡ Some assortment
  pub priced : IsPriced assortment (log_type_at types bid.rank) d
  pub length : (log_type_at types bid.rank).length ≡ steps * s.instruction.«module»
  pub some : 0 < steps
  pub own : assortment.trim ≡ trim
  pub worth : bid.worth ≡ worth_for s assortment (log_type_at types bid.rank) d

-- what a candidate bids for a log of a top diameter
abbrev pub candidate_bid : Candidate → ℕ → BidParts
candidate_bid q d = bid_of (worth_at q.term.kind q.price (volume d q.term.length)) q.term.rank

-- a candidate within the limits of an instruction
pub record IsSmall (q : Candidate) : Type 0 where
  pub length : q.term.length ≤ 30000
  pub price : q.price ≤ HIGHEST_PRICE
  pub rank : q.term.rank ≤ HIGHEST_RANK

-- a candidate is a taker's bid at each diameter of a band
pub record IsCandidate (s : SheetParts) (types : List LogType) (takers : AssortmentSet) (band : Band)
    (q : Candidate) : Type 0 where
  pub small : IsSmall q
  pub rise : q.term.rise ≡ point_after s.instruction.«module» q.term.trim
  pub bids : (d : ℕ) → IsInBand band d → IsTakersBid s types takers d q.term.steps q.term.trim (candidate_bid q d)

-- a term at the price of its class
abbrev pub candidate_at : List ℕ → Term → Candidate
candidate_at prices t = record { term = t; price = slice_index prices t.class }

-- the first bids more than the second by its price, of the same kind, and by length if that is per cubic metre, for
-- logs that are no longer and with no more trim
pub record IsLed (p q : Candidate) : Type 0 where
  pub trim : p.term.trim ≤ q.term.trim
  pub steps : p.term.steps ≤ q.term.steps
  pub less : ((p.term.kind ≡ 1) × (q.term.kind ≡ 1) × (q.price * q.term.length + p.price < p.price * p.term.length))
      ⊎ ((p.term.kind ≢ 1) × (q.term.kind ≢ 1) × (q.price < p.price))

-- the first comes before the second in the tie order and bids no less, for logs that are as long and with no more trim
pub record IsTied (p q : Candidate) : Type 0 where
  pub length : p.term.length ≡ q.term.length
  pub steps : p.term.steps ≡ q.term.steps
  pub kind : p.term.kind ≡ q.term.kind
  pub price : q.price ≤ p.price
  pub rank : q.term.rank < p.term.rank
  pub trim : p.term.trim ≤ q.term.trim

-- what can lead a list: it outbids what it leads
abbrev pub IsLeading : ListKey → Candidate → Type 0
IsLeading key p = (p.term.kind ≢ 1) ⊎ (36 ≤ key.band.thinnest)

-- one of a list bids what a candidate does: it is that, outbids it, or ties with it
abbrev pub IsCovered : ListKey → List Candidate → Candidate → Type 0
IsCovered key list x =
    (p : Candidate) × Contains list p × ((p ≡ x) ⊎ (IsLeading key p × IsLed p x) ⊎ IsTied p x)

-- who leads a list: what it outbids or ties with is covered
abbrev pub IsLeader : ListKey → List Candidate → Candidate → Type 0
IsLeader key list p = (x : Candidate) → IsLed p x ⊎ IsTied p x → IsCovered key list x

-- a candidate comes to a list: the new one has what the list has, or that, and covers both
pub record IsNext (key : ListKey) (q : Candidate) (list new : List Candidate) : Type 0 where
  pub real : (x : Candidate) → Contains new x → Contains list x ⊎ (q ≡ x)
  pub met : (x : Candidate) → IsCovered key list x → IsCovered key new x
  pub own : IsCovered key new q

-- a list has candidates of takers' terms at their prices, and covers those of the first n terms
pub record IsPruned (key : ListKey) (prices : List ℕ) (terms : List Term) (n : ℕ) (list : List Candidate) : Type 0 where
  pub real : (q : Candidate) → Contains list q
      → (t : Term) × Contains terms t × IsTaker key.takers t.assortment × (candidate_at prices t ≡ q)
  pub met : (k : ℕ) (t : Term) → k < n → slice_get terms k ≡ Some t → IsTaker key.takers t.assortment
      → IsCovered key list (candidate_at prices t)

-- the cell of a candidate at a diameter, in a row that reaches so far back
abbrev pub cell_of : ℕ → ℕ → Candidate → Cell
cell_of far d q = record {
  bid = candidate_bid q d;
  steps = q.term.steps;
  trim = q.term.trim;
  rise = q.term.rise;
  back = far - q.term.steps;
  next = far + q.term.rise;
}

-- the cells of a candidate list, in its order
abbrev pub row_of : ℕ → ℕ → List Candidate → List Cell
row_of far d candidates = map (cell_of far d) candidates

-- the candidates of a key: each is a taker's bid, and each bid of a taker is met, with no more trim
pub record AreCandidates (s : SheetParts) (types : List LogType) (key : ListKey)
    (candidates : List Candidate) : Type 0 where
  pub real : All (λ q. IsCandidate s types key.takers key.band q) candidates
  pub met : (steps trim d : ℕ) (bid : BidParts) → IsInBand key.band d → IsTakersBid s types key.takers d steps trim bid
      → (q : Candidate) × Contains candidates q × Meets (cell_of 0 d q) steps bid × (q.term.trim ≤ trim)

-- a term has a class, and is a candidate at each price of that if its assortment is a taker
pub record IsTerm (i : InstructionParts) (types : List LogType) (band : Band) (t : Term) : Type 0 where
  pub class : t.class < classes i
  pub few : t.assortment < 16
  pub candidate : (version : ℕ) (prices : List ℕ) → IsSheet (sheet_of version i prices) → (takers : AssortmentSet)
      → IsTaker takers t.assortment → IsCandidate (sheet_of version i prices) types takers band (candidate_at prices t)

-- the terms of the first n log types: each bid of whatever taker is that of one of its terms at the price
pub record AreTerms (i : InstructionParts) (types : List LogType) (band : Band) (n : ℕ)
    (terms : List Term) : Type 0 where
  pub real : All (λ t. IsTerm i types band t) terms
  pub met : (version : ℕ) (prices : List ℕ) → IsSheet (sheet_of version i prices)
      → (takers : AssortmentSet) (steps trim d : ℕ) (bid : BidParts) → IsInBand band d → HIGHEST_RANK < bid.rank + n
      → IsTakersBid (sheet_of version i prices) types takers d steps trim bid
      → (t : Term) × Contains terms t × IsTaker takers t.assortment × (t.steps ≡ steps) × (t.trim ≡ trim)
      × (candidate_bid (candidate_at prices t) d ≡ bid)

-- a cell is a taker's bid
pub record IsCell (s : SheetParts) (types : List LogType) (takers : AssortmentSet) (d far : ℕ) (c : Cell) : Type 0 where
  pub bids : IsTakersBid s types takers d c.steps c.trim c.bid
  pub rise : c.rise ≡ point_after s.instruction.«module» c.trim
  pub placed : IsPlaced far c

-- a row at a diameter: each of its cells is a taker's bid, and each bid of a taker is met, with no more trim
pub record IsRow (s : SheetParts) (types : List LogType) (takers : AssortmentSet) (d far : ℕ)
    (row : List Cell) : Type 0 where
  pub real : All (λ c. IsCell s types takers d far c) row
  pub met : (steps trim : ℕ) (bid : BidParts) → IsTakersBid s types takers d steps trim bid
      → (c : Cell) × Contains row c × Meets c steps bid × (c.trim ≤ trim)
