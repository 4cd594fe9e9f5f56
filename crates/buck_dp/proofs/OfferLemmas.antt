-- The search goes on by logs that are offered.
use Rattle.buck_dp.proofs.Words.{◌≡◌, ℕ, ◌+◌, ◌-◌, ◌*◌, ◌<◌, ◌≤◌, ◌⊎◌, inl, inr, List, length, worth_low, mul-le-mul_right, slice_get, Some, sym, ◌∙◌, arith, rules, cases_lt, cases_order, cases_eq, slice_get_within, GroundParts, ends_of}
use Rattle.buck_dp.proofs.Words.{IsSheet, Cell, BidParts, none, IsAtMost, plus, IsLogAt, bid_at, IsNear, HasNoneOf, Reaches, IsSearch, CanOffer, IsOffered, AreOffered, IsStem, ◌++◌, get_or-append_right, get_or-append-add}
use Rattle.buck_dp.proofs.Words.{get_or_append_left, length-append, same_Some, AllFit, AreChosen, stem_length}
use Rattle.buck_dp.proofs.Logs.{start_is}
use Rattle.buck_dp.proofs.TopLemmas.{IsAtMost-refl, IsAtMost-trans, worth_at_most, greater_first, greater_second, plus_more, settled_same, made_same}

-- no log bids more than its steps allow
log_low : (p : GroundParts) (i j e : ℕ) (bid : BidParts) → IsSheet p.sheet → IsLogAt p i j e bid
    → bid.worth + 70000000000 * (i * p.sheet.instruction.«module») ≤ 70000000000 * (e * p.sheet.instruction.«module»)
log_low p i j e bid s log = search (rules, worth_low, mul-le-mul_right, start_is)

-- what may lie behind the last point leaves little room
ends_low : (p : GroundParts) → IsSheet p.sheet → IsStem p.stem → ends_of p * p.sheet.instruction.«module» ≤ 42000
ends_low p s t = omega arith

module _ {p : GroundParts} {v w : List BidParts} {ch : List ℕ} {t stop i e : ℕ} {bid : BidParts}
    (was : IsSearch p v ch t stop) (log : IsLogAt p i t e bid) (offered : IsOffered i e bid v w) where
  -- settled values stay
  pub stays : (k : ℕ) → t ≤ k → bid_at w k ≡ bid_at v k
  stays k le = offered.others k (λ e. omega (arith, log.later))

  -- a value stays, or is the one that is offered
  which : (k : ℕ) → (bid_at w k ≡ bid_at v k) ⊎ ((k ≡ i) × (bid_at w i ≡ plus bid (bid_at v e)))
  which k = search (rules, cases_eq)

  -- no value falls
  pub kept : (k : ℕ) → IsAtMost (bid_at v k) (bid_at w k)
  kept k = search (rules, cases_eq, IsAtMost-refl, greater_first)

  reaches_still : (k : ℕ) (b : BidParts) → Reaches v k b → Reaches w k b
  reaches_still k b was_reached = search (rules, IsAtMost-trans, kept, worth_at_most)

  -- a search stays right if a log's bid is offered
  pub still_searched : IsSearch p w ch t stop
  still_searched = record {
    valid = was.valid;
    sound = was.sound;
    below = was.below;
    within = was.within;
    number = offered.number ∙ was.number;
    room = was.room;
    low = λ k lt. grind (arith, (which k), (was.low k lt), (log_low p i t e bid was.valid log), (was.low e log.last));
    settled = λ k le. search (rules, settled_same, stays, was.settled);
    each = λ k j x b lt le which l.
        rw (stays x (omega (arith, l.order))) (reaches_still k _ (was.each k j x b lt le which l));
    one = λ k lt. elim (which k) [
      | inl same ↦ made_same p v w t stays t k (omega arith) same (was.one k lt)
      | inr new ↦ inr (t, e, bid, omega arith, rw new.0 log, rw (new.0, stays e log.order) new.1)
    ];
  }

-- what is offered to values is offered to these behind others
pub offered_behind : (front : List BidParts) {v w : List BidParts} {start next : ℕ} {bid : BidParts}
    → IsOffered start next bid v w
    → IsOffered (length front + start) (length front + next) bid (front ++ v) (front ++ w)
offered_behind front offered = search (rules, cases_lt, get_or_append_left, get_or-append_right, length-append)

-- and can be so offered
pub can_behind : (front : List BidParts) {v : List BidParts} {start next : ℕ} {bid : BidParts}
    → CanOffer (length front + start) (length front + next) bid (front ++ v) → CanOffer start next bid v
can_behind front can = search (rules, length-append, get_or-append-add)

module _ {p : GroundParts} {ch : List ℕ} {t first stop : ℕ} {cells : List Cell} {v : List BidParts}
    (is : AreOffered p ch t first stop cells 0 v) where
  -- the cells of a range are chosen by their steps and the room behind the top
  pub range_chosen : {room : ℕ} → room + t * p.sheet.instruction.«module» ≡ stem_length p.stem.samples
      → AreChosen p t first stop (t - stop + 1) (t - first + 1) room cells
  range_chosen behind k c at = grind (arith, is.order, is.search.below)

  -- if all fit and start before the top, by their steps alone
  pub all_chosen : {far : ℕ} → AllFit p far t cells → stop ≡ t
      → AreChosen p t first stop 0 (t - first + 1) 4294967295 cells
  all_chosen fit all k c at = grind (arith, (fit k c at), is.order, is.search.sound)

module _ {p : GroundParts} {ch : List ℕ} {t first stop : ℕ} {cells : List Cell} {n : ℕ} {v : List BidParts}
    (was : AreOffered p ch t first stop cells n v) {c : Cell} (there : slice_get cells n ≡ Some c) where
  -- a cell that is near can be offered
  pub cell_fits : {i e : ℕ} → IsNear p t first stop c → i + c.steps ≡ t → e ≡ t + c.rise → CanOffer i e c.bid v
  cell_fits {i = i} {e = e} near is after =
      let log : IsLogAt p i t e c.bid =
      rw after (was.range.real n c there near.2 i i (omega (arith, near.0)) (omega (arith, near.1)) (omega arith) is) in
      let now = was.search in
      record {
        inside = omega (arith, log.last, now.number);
        there = omega (arith, log.last, now.number);
        even = (now.settled e log.order).even;
        low = omega (arith, log_low p i t e c.bid now.valid log, now.low e log.last, ends_low p now.valid now.sound);
      }

  -- one that isn't is passed
  pub offered_less : (IsNear p t first stop c → ⊥) → AreOffered p ch t first stop cells (n + 1) v
  offered_less far = search (rules, cases_lt, same_Some, was.done, there)

  -- one cell more is offered
  pub offered_more : {i e : ℕ} {w : List BidParts} → IsNear p t first stop c
      → i + c.steps ≡ t → e ≡ t + c.rise → IsOffered i e c.bid v w → AreOffered p ch t first stop cells (n + 1) w
  offered_more {i = i} {e = e} {w = w} near is after offered =
      let log : IsLogAt p i t e c.bid =
      rw after (was.range.real n c there near.2 i i (omega (arith, near.0)) (omega (arith, near.1)) (omega arith) is) in
      record {
        search = still_searched was.search log offered;
        range = was.range;
        order = was.order;
        done = λ k d lt at close j sum.
            rw (stays was.search log offered (t + d.rise) (omega arith))
            (elim (cases_lt k n) [
              | inl before ↦
                  IsAtMost-trans _ _ _ (was.done k d before at close j sum) (kept was.search log offered j)
              | inr now ↦
                  let here : n ≡ k = omega arith in
                  let same : c ≡ d = same_Some c d (sym there ∙ rw here at) in
                  search (rules, greater_second)
            ]);
      }

module _ {p : GroundParts} {v : List BidParts} {ch : List ℕ} {t stop : ℕ} (was : IsSearch p v ch t stop) where
  -- once the logs that start in one range more are offered, a search goes on before that
  pub searched_to : {first : ℕ} → first ≤ stop
      → ((i e : ℕ) (bid : BidParts) → first ≤ i → i < stop → IsLogAt p i t e bid → Reaches v i (plus bid (bid_at v e)))
      → IsSearch p v ch t first
  searched_to {first} order range =
      let each : (i j e : ℕ) (bid : BidParts) → i < t → t ≤ j → (t < j) ⊎ (first ≤ i) → IsLogAt p i j e bid
      → Reaches v i (plus bid (bid_at v e)) =
      (λ i j e bid lt le which log. elim (cases_order t j) [
        | inl here ↦ elim (cases_lt i stop) [
          | inl new ↦ range i e bid (grind arith) new (rw here log)
          | inr done ↦ was.each i j e bid lt le (inr done) log
        ]
        | inr far ↦ was.each i j e bid lt le (inl (grind arith)) log
      ]) in
      search rules

  -- if no more logs have a top, all with it are offered
  pub closed : HasNoneOf p stop t → IsSearch p v ch t 0
  closed none = searched_to (omega arith) (λ i e bid low lt log. absurd (none i e bid lt log))

module _ {p : GroundParts} {ch : List ℕ} {t first stop n : ℕ} {cells : List Cell} {v : List BidParts}
    (was : AreOffered p ch t first stop cells n v) (all : length cells ≤ n) where
  -- a log of the range reaches the values
  reached : (i e : ℕ) (bid : BidParts) → first ≤ i → i < stop → IsLogAt p i t e bid
      → Reaches v i (plus bid (bid_at v e))
  reached i e bid low lt log =
      let s = was.range.served i e bid low lt log in
      let start : ℕ = t - s.1.steps in
      let is : start + s.1.steps ≡ t = omega (arith, s.4, log.later) in
      let le : i ≤ start = omega (arith, s.4, log.later) in
      let own = was.range.real s.0 s.1 s.2 s.3 i start low lt le is in
      let less = (was.search.settled (t + s.1.rise) own.order).falls e s.5 in
      let at : Reaches v start (plus s.1.bid (bid_at v (t + s.1.rise))) =
      elim (cases_lt start stop) [
        | inl near ↦
            inl (was.done s.0 s.1 (omega (arith, all, slice_get_within cells s.0 s.1 s.2)) s.2
            (omega (arith, le, is, low), omega (arith, near, is), s.3) start is)
        | inr far ↦ was.search.each start t (t + s.1.rise) s.1.bid own.later (omega arith) (inr far) own
      ] in
      elim at [
        | inr more ↦ inr (more.0, omega (arith, le, more.1), omega (arith, s.4, more.2))
        | inl here ↦ elim s.4 [
          | inl same ↦
              let at_start : i ≡ start = omega (arith, same.0, log.later) in
              inl (rw at_start (search (rules, plus_more, less, IsAtMost-trans, here, same)))
          | inr later ↦ inr (start, omega (arith, later.0, log.later), grind arith)
        ]
      ]

  -- once all cells of a range are offered, all its logs are
  pub offered_range : IsSearch p v ch t first
  offered_range = searched_to was.search was.order reached
