-- Logs of a stem as bids of its takers, and the other way.
use Rattle.buck_dp.proofs.Words.{whole_steps, List, ◌⊎◌, ◌≡◌, ℕ, ◌+◌, ◌-◌, ◌*◌, ◌/◌, ◌%◌, ◌<◌, ◌≤◌, refl, sym, ap, ◌∙◌, arith, rules, length, get_or_default, add-mul, mul-le-mul_right, mul-mod_left, div-mul-le_self, mul-add-div_right}
use Rattle.buck_dp.proofs.Words.{le-div, cases_order, All-contains, IsCell, Cell, ServesRange, IsRow, stem_length, diameter_at, Log, IsSheet, IsAllowed, top_of, trim_in, trim_of, worth_of, GroundParts, point_after, LogType, log_type}
use Rattle.buck_dp.proofs.Words.{log_type_at, IsRank, HIGHEST_RANK, AreLogTypes, BidParts, bid_of, IsLogAt, log_at, next_after, IsTakersBid, AssortmentSet, HasTakers, allowed_low, IsLogBefore, cases_lt, lt-div-mul-add, div-le_of_le-mul}
use Rattle.buck_dp.proofs.ListLemmas.{on_module, all_at, place_of}
use Rattle.buck_dp.proofs.Lists.{end_within, same_log}

-- a length is at least one step
pub one_step : (l step : ℕ) → 0 < l → l % step ≡ 0 → 0 < l / step
one_step l step long on = search (rules, cases_lt, whole_steps)

-- the point after a place is no later than any point that is at or after it
pub after_first : (m x k : ℕ) → 0 < m → x ≤ k * m → point_after m x ≤ k
after_first m x k pos le = search (rules, le-div, div-mul-le_self, div-le_of_le-mul)

-- the point after a place within the length is at most one past the last
pub after_within : (m total x : ℕ) → 0 < m → x ≤ total → point_after m x < total / m + 1 + 1
after_within m total x pos le = grind (arith, after_first, lt-div-mul-add)

-- after a later place the point is no earlier
pub after_in_order : (m a b : ℕ) → 0 < m → a ≤ b → point_after m a ≤ point_after m b
after_in_order m a b pos le = after_first m a (point_after m b) pos (omega arith)

-- a point lies within the stem
pub point_within : (m j length : ℕ) → j < length / m + 1 → j * m ≤ length
point_within m j length lt = search (rules, mul-le-mul_right, div-mul-le_self)

module _ (p : GroundParts) (valid : IsSheet p.sheet) where
  -- the module
  abbrev unit : ℕ
  unit = p.sheet.instruction.«module»

  -- where a log starts
  pub start_is : (rank i : ℕ) → (log_at p rank i).start ≡ i * unit
  unfolding log_at
  start_is rank i = refl

  -- of two logs from one point, the one of the higher rank is the other, or before it
  pub ranks_before : AreLogTypes p.sheet.instruction p.types.list.items → (i high low : ℕ) → low ≤ high
      → high ≤ HIGHEST_RANK → IsRank p.types.list.items low
      → (log_at p high i ≡ log_at p low i) ⊎ IsLogBefore (log_at p high i) (log_at p low i)
  unfolding log_at
  ranks_before are i high low le most rank =
      grind (arith, are.order, (same_log (log_at p high i) (log_at p low i)), cases_order)

  pos : 0 < unit
  pos = omega (arith, valid.valid.module_range)

  -- where the point after a log lies
  end_is : (j : ℕ) (g : Log) → top_of g ≡ j * unit
      → next_after p g ≡ j + point_after unit (trim_of p.sheet.instruction g)
  end_is j g top =
      ap (λ n. n / unit) (omega (arith, top))
      ∙ mul-add-div_right pos j (trim_of p.sheet.instruction g + (unit - 1))

  -- each allowed log from a point is the one of a rank
  pub log_there : (i : ℕ) (g : Log) → AreLogTypes p.sheet.instruction p.types.list.items → g.start ≡ i * unit
      → IsAllowed p.sheet.instruction p.stem g
      → (j : ℕ) × (bid : BidParts) × IsLogAt p i j (next_after p g) bid × (log_at p bid.rank i ≡ g)
  unfolding log_at
  log_there i g are at a =
      let n : ℕ = g.length / unit in
      let on : g.length % unit ≡ 0 = search (rules, on_module) in
      let low = allowed_low p.sheet.instruction p.stem g valid.valid a in
      let some : 0 < n = one_step g.length unit (omega (arith, low.0)) on in
      let top : top_of g ≡ (i + n) * unit = omega (arith, at, whole_steps g.length unit on, add-mul i n unit) in
      let o : LogType = log_type g.length g.assortment in
      let found = (are.all o).1 (search rules) in
      let rank : ℕ = HIGHEST_RANK - found.0 in
      let place : HIGHEST_RANK - rank ≡ found.0 = omega (arith, found.1, are.few) in
      let own : log_type_at p.types.list.items rank ≡ o =
      rw place (get_or_default p.types.list.items found.0 (log_type 0 0) o found.1 ∙ found.2) in
      let same : log_at p rank i ≡ g = rw (own, ← at) refl in
      let in_stem = a.allows.within in (
        i + n,
        bid_of (worth_of p.sheet p.stem g) rank,
        record {
          rank = (omega arith, omega (arith, place, found.1));
          allowed = rw same a;
          top = ap top_of same ∙ top;
          ends = ap (λ g. next_after p g) same;
          worth = rw same refl;
          later = omega arith;
          order = omega (arith, end_is (i + n) g top);
          within = omega (arith, le-div (i + n) (stem_length p.stem.samples) unit pos (omega (arith, top, in_stem)));
          last = search (rules, after_within, pos, end_within);
        },
        same,
      )

  module _ {t : ℕ} {takers : AssortmentSet} where
    -- a log whose wood takers take is bid by one of them
    pub log_bid : {i e : ℕ} {bid : BidParts} → HasTakers p takers i t → (l : IsLogAt p i t e bid)
        → (t * unit + l.allowed.assortment.trim ≤ stem_length p.stem.samples)
        × (e ≡ t + point_after unit l.allowed.assortment.trim)
        × IsTakersBid p.sheet p.types.list.items takers (diameter_at p.stem.samples (t * unit)) (t - i)
        l.allowed.assortment.trim bid
    unfolding log_at worth_of
    log_bid {i} {e} {bid} has l =
        let a = l.allowed in
        let g : Log = log_at p bid.rank i in
        let sum : i + (t - i) ≡ t = omega (arith, l.later) in
        rw (← l.top) (
          a.allows.within,
          sym l.ends ∙ end_is t g l.top ∙ ap (λ n. t + point_after unit n) (ap trim_in a.exists),
          record {
            rank = l.rank;
            taker = (has g.assortment a.assortment a.exists).1 (a.allows.species, rw (← l.top) a.allows.grades);
            assortment = a.assortment;
            exists = a.exists;
            priced = (a.allows.length_offered, a.allows.bought);
            length = omega (arith, l.top, add-mul i (t - i) unit, l.later, ap (λ n. n * unit) sum);
            some = omega (arith, l.later);
            own = refl;
            worth = search (rules, l.worth, a.exists);
          },
        )

    -- a taker's bid that fits is that of a log from each start in the wood that it takes
    pub bid_log : {i k steps trim : ℕ} {bid : BidParts} → HasTakers p takers i t → i ≤ k → k + steps ≡ t
        → t * unit + trim ≤ stem_length p.stem.samples
        → IsTakersBid p.sheet p.types.list.items takers (diameter_at p.stem.samples (t * unit)) steps trim bid
        → IsLogAt p k t (t + point_after unit trim) bid
    unfolding log_at worth_of
    bid_log {i} {k} {steps} {trim} {bid} has le is fits b =
        let g : Log = log_at p bid.rank k in
        let start : i * unit ≤ k * unit = mul-le-mul_right unit le in
        let top : top_of g ≡ t * unit = omega (arith, b.length, ap (λ n. n * unit) is, add-mul k steps unit) in
        let takes = (has (log_type_at p.types.list.items bid.rank).assortment b.assortment b.exists).0 b.taker in
        let allowed : IsAllowed p.sheet.instruction p.stem g = record {
          assortment = b.assortment;
          exists = b.exists;
          allows = record {
            species = takes.0;
            on_module = mul-mod_left k unit;
            length_offered = b.priced.0;
            within = omega (arith, top, b.own, fits);
            grades = λ x from to. takes.1 x (omega arith) (omega (arith, top));
            bought = rw top b.priced.1;
          };
        } in
        let after : next_after p g ≡ t + point_after unit trim =
        end_is t g top ∙ ap (λ n. t + point_after unit n) (ap trim_in b.exists ∙ b.own) in
        record {
          rank = b.rank;
          allowed = allowed;
          top = top;
          ends = after;
          worth = search (rules, b.worth, b.exists, top);
          later = omega (arith, b.some);
          order = omega arith;
          within = omega (arith, le-div t (stem_length p.stem.samples) unit pos (omega arith));
          last = rw (← after) (search (rules, after_within, pos, end_within));
        }

  -- a row is right for the starts in the wood of its takers
  pub row_serves : {t first stop far : ℕ} {takers : AssortmentSet} {row : List Cell}
      → ((i : ℕ) → first ≤ i → i < stop → HasTakers p takers i t)
      → IsRow p.sheet p.types.list.items takers (diameter_at p.stem.samples (t * unit)) far row
      → ServesRange p t first stop row
  row_serves {t} {first} {stop} {far} {takers} {row} here drawn =
      let is_cell : Cell → Type 0 =
      λ c. IsCell p.sheet p.types.list.items takers (diameter_at p.stem.samples (t * unit)) far c in
      record {
        real = λ k c at fits i start low high le e.
            let cell = all_at is_cell row drawn.real k c at in
            rw cell.rise (bid_log (here i low high) le e (omega (arith, fits)) cell.bids);
        served = λ i e bid low high log.
            let trim : ℕ = log.allowed.assortment.trim in
            let b = log_bid (here i low high) log in
            let m = drawn.met (t - i) trim bid b.2 in
            let c : Cell = m.0 in
            let cell = All-contains is_cell row c drawn.real m.1 in
            let rise = after_in_order unit c.trim trim pos m.3 in
            (m.1.0, c, place_of row c m.1, omega (arith, b.0, m.3), m.2, omega (arith, b.1, cell.rise));
      }
