-- Who takes the wood of a stem.
use Rattle.buck_dp.proofs.Words.{IsAssortment, ◌≡◌, ℕ, ◌+◌, ◌-◌, ◌*◌, ◌/◌, ◌<◌, ◌≤◌, ◌⊎◌, inl, inr, List, [], ◌∷◌, ◌++◌, zero, suc, get_or, length, refl, sym, subst, arith, mul-le-mul_left, mul-le-mul_right, add-mul, rules, div-mul-le_self}
use Rattle.buck_dp.proofs.Words.{le-div, le_of_mul-le-mul_right, min, div-lt_iff_lt-mul, cases_lt, append_assoc, append-nil, IsStem, grade_at, HasGrade, stem_length, diameter_at, IsMask, grade_at_is, mask_allows, IsSheet, slice_index}
use Rattle.buck_dp.proofs.Words.{GroundParts, points_of, ends_of, AssortmentSet, IsTaker, AreTakersOf, BidParts, none, HasTakers, HasNoneOf, IsRow, IsRangeTo, AreRanges, HaveRanges, IsEven, IsSearch, AreOffered, IsCell, log_at, AllFit}
use Rattle.buck_dp.proofs.Words.{bid_at, IsNearest, IsGrid, StemGrid, StartRange, Cell, IsLogAt, CacheParts, IsCacheOf}
use Rattle.buck_dp.proofs.ListLemmas.{all_at}
use Rattle.buck_dp.proofs.Logs.{point_within, row_serves}
use Rattle.buck_stem_shape.specs.points.Profile as points

module _ {p : GroundParts} {values : List BidParts} {choices : List ℕ} where
  -- a search to a top is one to an equal top
  pub at_top : {m n : ℕ} → m ≡ n → IsSearch p values choices m 0 → IsSearch p values choices n 0
  at_top same was = subst (λ n. IsSearch p values choices n 0) same was

  -- behind the last point a search begins
  pub begun : IsSheet p.sheet → IsStem p.stem → length values ≡ ends_of p → length choices ≡ ends_of p
      → ((k : ℕ) → get_or values k none ≡ none) → ((k : ℕ) → points_of p ≤ k → get_or choices k 0 ≡ 0)
      → IsSearch p values choices (points_of p) 0
  begun valid sound number room none_yet no_choice = grind (arith, bid_at, ends_of, mul-le-mul_right)

-- who takes wood of a stem's species and of the grades from a start to a top, takes the wood between them
pub kind_takers : (p : GroundParts) (i t grades : ℕ) (takers : AssortmentSet) → IsStem p.stem
    → IsMask p.stem.zones (i * p.sheet.instruction.«module») (t * p.sheet.instruction.«module») grades
    → AreTakersOf p.sheet.instruction p.stem.species grades takers → HasTakers p takers i t
kind_takers p i t grades takers sound mask are = λ a x at.
    let unit : ℕ = p.sheet.instruction.«module» in
    let both = are a x at in
    let same = mask_allows p.stem (i * unit) (t * unit) grades x.grades sound mask in search rules

-- where a range found with the last top of a run ends, for a top of the run: at this top, if it is the nearest range
abbrev pub IsStop : ℕ → ℕ → ℕ → ℕ → Type 0
IsStop last top stop s = (s ≡ stop) ⊎ ((s ≡ top) × (stop ≡ last))

-- the ranges of the starts from a point on are found for the tops behind point `first` and before `past`
pub record AreFound (p : GroundParts) (first past stop : ℕ) (ranges : List StartRange) : Type 0 where
  pub within : stop ≤ first + 1
  pub each : (t : ℕ) → first + 1 ≤ t → t < past → (s : ℕ) × IsStop (first + 1) t stop s
      × ((rest : List StartRange) → AreRanges p t s rest → AreRanges p t t (ranges ++ rest))

module _ (p : GroundParts) (t : ℕ) where
  -- before the last of the ranges no log starts
  pub last_range : (stop k : ℕ) (ranges : List StartRange) (range : StartRange) → range ≡ get_or ranges k range
      → k + 1 ≡ length ranges → AreRanges p t stop ranges → HasNoneOf p range.first t
  last_range stop k [] range at is are = absurd (omega arith)
  last_range stop zero (only ∷ []) range at is are = rw at are.1
  last_range stop zero (first ∷ next ∷ ranges) range at is are = absurd (omega arith)
  last_range stop (suc k) (first ∷ ranges) range at is are =
      last_range first.first k ranges range at (omega arith) are.1

module _ {p : GroundParts} {x : StemGrid} (is_grid : IsGrid p x) where
  abbrev unit : ℕ
  unit = p.sheet.instruction.«module»

  -- the length of the stem reaches each of its points, and these are few
  pub point_reached : (t : ℕ) → t < points_of p
      → (t * p.sheet.instruction.«module» ≤ stem_length p.stem.samples) × (t ≤ 4000)
  point_reached t lt = search (rules, point_within, mul-le-mul_left)

  -- if nobody takes the wood of a range, no log starts there or before
  none_there : {t stop : ℕ} {range : StartRange} → IsRangeTo p t stop range → ((a : ℕ) → IsTaker range.set.takers a → ⊥)
      → HasNoneOf p stop t
  unfolding log_at
  none_there {t} {stop} here none k e bid lt log =
      let has = here.takers (stop - 1) (omega (arith, here.first)) (omega (arith, here.first)) in
      grind (arith, mul-le-mul_right, log.allowed, log.top)

  -- no log is longer than the longest
  none_far : (t stop : ℕ) → stop ≤ t - p.types.most_steps → HasNoneOf p stop t
  unfolding log_at
  none_far t stop far k e bid lt log = grind (arith, le_of_mul-le-mul_right, add-mul, log.top, bid.rank, log.rank)

  -- no log is shorter than the shortest
  pub none_near : {i t e : ℕ} {bid : BidParts} → t < i + p.types.least_steps → IsLogAt p i t e bid → ⊥
  unfolding log_at
  none_near {i} {t} {bid = bid} near log =
      let pos : 0 < unit = omega (arith, is_grid.valid.valid.module_range) in
      let least : i + p.types.least_steps ≤ t = le_of_mul-le-mul_right
      (omega (arith, log.top, is_grid.types.short bid.rank log.rank, add-mul i p.types.least_steps unit)) pos in
      omega arith

  -- a top too near to the last of its ranges has no logs
  pub short_run : (t k : ℕ) (range : StartRange) (ranges : List StartRange) → AreRanges p t t ranges
      → range ≡ get_or ranges k range → k + 1 ≡ length ranges → t < range.first + p.types.least_steps → HasNoneOf p t t
  short_run t k range ranges are at is near i e bid lt log =
      grind (
        arith,
        (last_range p t t k ranges range at is are i e bid),
        (λ (low : t < i + p.types.least_steps). none_near low log),
      )

  -- all logs with a top start in the nearest range, if that is the only one, or the others are too far
  pub near_run : (t : ℕ) (near : StartRange) (ranges : List StartRange) → AreRanges p t t ranges
      → near ≡ get_or ranges 0 near → 0 < length ranges → t < x.fit
      → (length ranges ≡ 1) ⊎ (near.first + p.types.most_steps ≤ t)
      → IsNearest p x near t
  near_run t near [] are at some fits far = absurd (omega arith)
  near_run t near (first ∷ ranges) are at some fits far = record {
    range = subst (λ n. IsRangeTo p t t n) (sym at) are.0;
    all = elim far [
      | inl one ↦ last_range p t t 0 (first ∷ ranges) near at (omega arith) are
      | inr away ↦ none_far t near.first (omega arith)
    ];
    fit = fits;
  }

  module _ (ds : List ℕ)
      (right : (j : ℕ) → j < points.points_of x.profile.now
      → slice_index ds j ≡ diameter_at x.profile.now.stem.samples (j * x.profile.now.«module»))
      {t : ℕ} (lt : t < points_of p) {values : List BidParts} {choices : List ℕ} (row : List Cell)
      (m : CacheParts) (cache : IsCacheOf p m) where
    -- the row of a range can be offered to its starts
    pub range_open : {stop : ℕ} {range : StartRange} → IsSearch p values choices t stop → IsRangeTo p t stop range
        → IsRow m.sheet m.types.list.items range.set.takers (slice_index ds t) m.types.most_steps row
        → AreOffered p choices t range.first stop row 0 values
    range_open {stop} {range} was here drawn = record {
      search = was;
      range = row_serves p is_grid.valid here.takers
          (rw (cache.0, cache.1, rw is_grid.profile at right t lt) at drawn);
      order = omega (arith, here.first);
      done = λ k c none. absurd (omega (arith, none));
    }

    -- so for the nearest range, if each trim fits
    pub near_open : {near : StartRange} → IsSearch p values choices t t → IsNearest p x near t
        → IsRow m.sheet m.types.list.items near.set.takers (slice_index ds t) m.types.most_steps row
        → AreOffered p choices t near.first t row 0 values × AllFit p p.types.most_steps t row
        × HasNoneOf p near.first t
    near_open {near} was nearest drawn = (
      range_open was nearest.range drawn,
      λ k c at.
          let is = rw (cache.0, cache.1) at drawn in
          let cell = all_at (λ c. IsCell p.sheet p.types.list.items near.set.takers (slice_index ds t)
          p.types.most_steps c) row is.real k c at in
          let b = cell.bids in
          let valid = all_at IsAssortment _ is_grid.valid.valid.assortments_valid _ b.assortment b.exists in
          (b.some, omega (arith, is_grid.fit t nearest.fit, valid.trim_range, b.own), cell.placed),
      nearest.all,
    )

  module _ {first past : ℕ} (even : IsEven x.profile.now first (past - 1 - 1)) where
    -- the grade of a place in the steps of a run stands in each of them
    moved : (l y : ℕ) → first ≤ l → l + 1 < past → first * unit ≤ y → y < (past - 1) * unit
        → HasGrade p.stem.zones (l * unit) ((l + 1) * unit) (grade_at p.stem.zones y)
    moved l y low lt from to =
        let pos : 0 < unit = omega (arith, is_grid.valid.valid.module_range) in
        let k : ℕ = y / unit in
        let r = grade_at_is p.stem y is_grid.sound in
        let before : k < past - 1 = (div-lt_iff_lt-mul pos).1 to in
        let there = rw is_grid.profile at (even.1 l low (omega arith)) in
        let here = rw is_grid.profile at (even.1 k (le-div first y unit pos from) (omega arith)) in
        (there _ r.0).0 ((here _ r.0).1 (y, div-mul-le_self y unit, omega (arith, add-mul k 1 unit), refl))

    -- who takes the wood up to the last of its tops, from a start or from its first step, takes it up to each
    near_takers : (i t : ℕ) (takers : AssortmentSet) → first + 1 ≤ t → t < past → i < t
        → HasTakers p takers (min i first) (past - 1) → HasTakers p takers i t
    near_takers i t takers up high before has = λ a y at.
        let h = has a y at in
        let e : t - 1 + 1 ≡ t = omega arith in
        let start : min i first * unit ≤ i * unit = mul-le-mul_right unit (omega arith) in
        let run : first * unit ≤ t * unit = mul-le-mul_right unit (omega arith) in
        let stop : i * unit ≤ (t - 1) * unit = mul-le-mul_right unit (omega arith) in
        let far : t * unit ≤ (past - 1) * unit = mul-le-mul_right unit (omega arith) in (
          λ marked. (let w = h.0 marked in (w.0, λ z from to. w.1 z (omega arith) (omega arith))),
          λ takes. h.1 (
            takes.0,
            λ z from to. elim (cases_lt z (first * unit)) [
              | inr after ↦
                  let m = rw e at (moved (t - 1) z (omega arith) (omega arith) after to) in
                  rw (← m.3) (takes.1 m.0 (omega (arith, m.1)) m.2)
              | inl early ↦ takes.1 z (grind (arith, mul-le-mul_right, cases_lt first i)) (omega arith)
            ],
          ),
        )

    -- a range that is found with the last top of a run is one of each of its tops
    range_on : (t stop s : ℕ) {range : StartRange} → first + 1 ≤ t → t < past → stop ≤ first + 1
        → IsStop (first + 1) t stop s → IsRangeTo p (past - 1) stop range → IsRangeTo p t s range
    range_on t stop s {range} low high within which here = record {
      first = grind (arith, which, here.first);
      takers = λ i from to.
          near_takers i t range.set.takers low high (grind (arith, which))
          (here.takers (min i first) (omega (arith, here.first)) (grind (arith, which, here.first)));
    }

    pub none_found : AreFound p first past (first + 1) []
    none_found = record { within = omega arith; each = λ t low high. (t, inr (refl, refl), λ rest are. are) }

    module _ {stop : ℕ} {ranges : List StartRange} (found : AreFound p first past stop ranges) where
      -- one range more is found
      pub one_found : {range : StartRange} → IsRangeTo p (past - 1) stop range
          → AreFound p first past range.first (ranges ++ range ∷ [])
      one_found {range} here = record {
        within = omega (arith, here.first, found.within);
        each = λ t low high.
            let f = found.each t low high in (
              range.first,
              inl refl,
              λ rest are. rw append_assoc
                  (f.2 (range ∷ rest) (range_on t stop f.0 low high found.within f.1 here, are)),
            );
      }

      -- they are all, if no log starts before them
      all_found : ((t s : ℕ) → first + 1 ≤ t → t < past → IsStop (first + 1) t stop s → HasNoneOf p s t)
          → HaveRanges p (first + 1) past ranges
      all_found none t low high =
          let f = found.each t low high in
          rw append-nil at (f.2 [] (none t f.0 low high f.1))

      -- likewise if nobody takes the wood of the next range
      pub empty_found : {range : StartRange} → IsRangeTo p (past - 1) stop range
          → ((a : ℕ) → IsTaker range.set.takers a → ⊥) → HaveRanges p (first + 1) past ranges
      empty_found here none =
          all_found (λ t s low high which. none_there (range_on t stop s low high found.within which here) none)

      -- and if the next is too far away
      pub far_found : stop ≤ first + 1 - p.types.most_steps → HaveRanges p (first + 1) past ranges
      far_found far = all_found (λ t s low high which. none_far t s (grind (arith, which)))
