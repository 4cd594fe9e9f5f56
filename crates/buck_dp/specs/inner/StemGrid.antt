-- A stem at its points, and its search.
use Rattle.std.specs.Prelude.{◌≡◌, ℕ, ◌+◌, ◌*◌, ◌<◌, ◌≤◌, List, [], ◌∷◌}
use Rattle.buck_dp.specs.inner.Words.{IsStem, stem_length, profile_of, ProfileParts, IsMaskBetween, IsSheet}
use Rattle.buck_dp.specs.inner.Logs.{GroundParts, HasTakers, HasNoneOf}
use Rattle.buck_dp.specs.inner.Searched.{IsSearch}
use Rattle.buck_dp.specs.inner.LogTypes.{HasLogTypes}
use Rattle.buck_dp.specs.inner.SheetCache.{CacheParts}
use Rattle.buck_dp.specs.declared.planning.StemGrid.{StemGrid}
use Rattle.buck_dp.specs.declared.planning.Search.{Search}
use Rattle.buck_dp.specs.declared.planning.StartRange.{StartRange}

-- the profile is the stem's, and each trim fits behind the first tops
pub record IsGrid (p : GroundParts) (x : StemGrid) : Type 0 where
  pub valid : IsSheet p.sheet
  pub types : HasLogTypes p.sheet.instruction p.types
  pub sound : IsStem p.stem
  pub stem : x.stem.now ≡ p.stem
  pub profile : x.profile.now ≡ profile_of p.stem p.sheet.instruction.«module»
  pub fit : (t : ℕ) → t < x.fit → t * p.sheet.instruction.«module» + 200 ≤ stem_length p.stem.samples

-- the starts of a range are before a point, and its takers take the wood from each of them to a top
pub record IsRangeTo (p : GroundParts) (top stop : ℕ) (range : StartRange) : Type 0 where
  pub first : range.first < stop
  pub takers : (i : ℕ) → range.first ≤ i → i < stop → HasTakers p range.set.takers i top

-- the ranges of the starts before a point of logs with a top, each behind the next; no such log starts before the last
abbrev pub AreRanges : GroundParts → ℕ → ℕ → List StartRange → Type 0
AreRanges p top stop [] = HasNoneOf p stop top
AreRanges p top stop (range ∷ ranges) = IsRangeTo p top stop range × AreRanges p top range.first ranges

-- each top from `last` on and before `past` has these ranges
abbrev pub HaveRanges : GroundParts → ℕ → ℕ → List StartRange → Type 0
HaveRanges p last past ranges = (t : ℕ) → last ≤ t → t < past → AreRanges p t t ranges

-- the steps from one up to another have the same grades
abbrev pub IsEven : ProfileParts → ℕ → ℕ → Type 0
IsEven profile first last = (mask : ℕ) × ((k : ℕ) → first ≤ k → k ≤ last → IsMaskBetween profile k (k + 1) mask)

-- all logs with a top start in the range nearest to it, and each trim fits behind it
pub record IsNearest (p : GroundParts) (x : StemGrid) (near : StartRange) (top : ℕ) : Type 0 where
  pub range : IsRangeTo p top top near
  pub all : HasNoneOf p near.first top
  pub fit : top < x.fit

-- it has the sheet and the log types under which a stem is searched
abbrev pub IsCacheOf : GroundParts → CacheParts → Type 0
IsCacheOf p m = (m.sheet ≡ p.sheet) × (m.types ≡ p.types)

-- a stem is searched down to a top, whose logs are offered
pub record IsPlan (p : GroundParts) (x : StemGrid) (s : Search) (top : ℕ) : Type 0 where
  pub grid : IsGrid p x
  pub cache : IsCacheOf p s.cache
  pub search : IsSearch p s.values.items s.choices.items top 0
