-- The search goes on by a top.
use Rattle.buck_dp.proofs.Words.{◌≡◌, ◌≢◌, ℕ, ◌+◌, ◌<◌, ◌≤◌, inl, inr, List, get_or, refl, ◌∙◌, arith, mul-le-mul_right, rules, cases_lt, cases_eq, GroundParts, BidParts, bid_of, none, IsGreater, plus, bid_at, IsSettled, IsMade}
use Rattle.buck_dp.proofs.Words.{get_or-set_other, slice_set, length-set, get_or_read, IsSearch, IsAtMost}

pub IsAtMost-refl : (a : BidParts) → IsAtMost a a
IsAtMost-refl a = inr (refl, omega arith)

pub IsAtMost-trans : (a b c : BidParts) → IsAtMost a b → IsAtMost b c → IsAtMost a c
IsAtMost-trans a b c p q = grind arith

-- what is at most another is worth no more
pub worth_at_most : (a b : BidParts) → IsAtMost a b → a.worth ≤ b.worth
worth_at_most a b p = grind arith

-- a bid that is at most another is so too with what follows, if this is worth no more
pub plus_more : (a b c d : BidParts) → IsAtMost a b → c.worth ≤ d.worth → IsAtMost (plus a c) (plus b d)
plus_more a b c d p le = grind arith

-- the greater of two is at least the first
pub greater_first : (a b c : BidParts) → IsGreater a b c → IsAtMost a c
greater_first a b c g = search (rules, IsAtMost-refl)

-- and at least the second
pub greater_second : (a b c : BidParts) → IsGreater a b c → IsAtMost b c
greater_second a b c g = search (rules, IsAtMost-refl)

-- bids of as much worth and the same rank are the same
pub same_bid : (a b : BidParts) → a.worth ≡ b.worth → a.rank ≡ b.rank → a ≡ b
same_bid a b w r = search rules

module _ (p : GroundParts) (v w : List BidParts) (t : ℕ) (same : (k : ℕ) → t ≤ k → bid_at w k ≡ bid_at v k) where
  -- a settled point stays so if nothing changes from there on
  pub settled_same : (ch ci : List ℕ) (k : ℕ) → t ≤ k → get_or ci k 0 ≡ get_or ch k 0
      → IsSettled p v ch k → IsSettled p w ci k
  settled_same ch ci k le choice was = grind (arith, was.even, was.falls, was.each)

  -- a value that stays is made as it was
  pub made_same : (s i : ℕ) → s ≤ t → bid_at w i ≡ bid_at v i → IsMade p v t i → IsMade p w s i
  made_same s i le is was = search (rules, same)

module _ (p : GroundParts) {v : List BidParts} {ch : List ℕ} (t : ℕ) {rank : ℕ} {first second value even : BidParts}
    (was : IsSearch p v ch (t + 1) 0) (first_is : first ≡ get_or v t first)
    (second_is : second ≡ get_or v (t + 1) second) (max : IsGreater first second value)
    (even_is : even ≡ bid_of value.worth 0) (rank_is : rank ≡ value.rank) where
  abbrev w : List BidParts
  w = slice_set v t even

  abbrev ci : List ℕ
  ci = slice_set ch t rank

  greater : IsGreater (bid_at v t) (bid_at v (t + 1)) value
  greater = search (rules, get_or_read, was.within, was.number)

  here : bid_at w t ≡ bid_of value.worth 0
  here = search (rules, was.number, was.within, even_is)

  choice : get_or ci t 0 ≡ value.rank
  choice = search (rules, was.room, was.within, rank_is)

  -- other points stay as they are
  others : (k : ℕ) → k ≢ t → bid_at w k ≡ bid_at v k
  others k other = get_or-set_other v t k even none other

  later : (k : ℕ) → t + 1 ≤ k → bid_at w k ≡ bid_at v k
  later k le = others k (λ e. omega arith)

  next_less : (bid_at v (t + 1)).worth ≤ value.worth
  next_less = grind (arith, greater)

  next : IsSettled p v ch (t + 1)
  next = was.settled (t + 1) (omega arith)

  worth_more : (k : ℕ) → (bid_at v k).worth ≤ (bid_at w k).worth
  worth_more k = grind (arith, cases_eq, here, others, greater)

  -- the point itself
  here_settled : IsSettled p w ci t
  here_settled = record {
    even = rw here refl;
    falls = search (rules, cases_lt, here, later, next_less);
    each = λ j e bid log.
        rw (here, choice, later e (omega (arith, log.later, log.order)))
        (elim (was.each t j e bid (omega arith) (omega (arith, log.later)) (inr (omega arith)) log) [
          | inl at ↦ search (rules, IsAtMost-trans, greater_first, greater)
          | inr o ↦ search (rules, next_less, next.falls)
        ]);
    one = rw (here, choice, later (t + 1) (omega arith)) (elim greater [
      | inl at ↦ elim (was.one t (omega arith)) [
        | inl no_log ↦ inl (grind (arith, at, no_log))
        | inr o ↦
            let is : value ≡ plus o.2 (bid_at v o.1) = at.0 ∙ o.5 in
            inr (o.0, o.1, o.2, o.4, rw (later o.1 (omega (arith, o.4.order, o.3)), is) refl, rw is refl)
      ]
      | inr other ↦ inl (grind (arith, other, next.even))
    ]);
  }

  -- one point more is settled
  pub settled_more : IsSearch p w ci t t
  settled_more = record {
    valid = was.valid;
    sound = was.sound;
    below = omega arith;
    number = length-set v t even ∙ was.number;
    room = length-set ch t rank ∙ was.room;
    within = omega (arith, was.within);
    low = search (rules, cases_eq, here, others, was.low, mul-le-mul_right, greater);
    settled = λ k le. elim (cases_eq k t) [
      | inl near ↦ rw near here_settled
      | inr far ↦
          settled_same p v w (t + 1) later ch ci k (omega arith) (get_or-set_other ch t k rank 0 far)
          (was.settled k (omega arith))
    ];
    each = λ i j e bid lt le which log.
        let far : t < j = grind arith in
        rw (later e (omega (arith, log.order)), others i (λ e. omega arith))
        (elim (was.each i j e bid (omega arith) (omega (arith, far)) (inr (omega arith)) log) [
          | inl at ↦ inl at
          | inr o ↦ inr (o.0, o.1, omega (arith, o.2, worth_more o.0))
        ]);
    one = λ i lt.
        made_same p v w (t + 1) later t i (omega arith) (others i (λ e. omega arith)) (was.one i (omega arith));
  }
