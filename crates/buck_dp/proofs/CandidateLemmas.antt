-- Candidate lists that grow, and rows drawn from them.
use Rattle.buck_dp.proofs.Words.{IsAtMost, IsTied, IsTaker, slice_get-get_or, IsCovered, get_or, rules, ℕ, ◌+◌, ◌*◌, ◌<◌, ◌≤◌, ◌⊎◌, inl, inr, List, [], ◌∷◌, ◌++◌, All, Contains, length, length-map, get_or-map, map, refl, subst, ap, ◌∙◌}
use Rattle.buck_dp.proofs.Words.{arith, ne_eqb, Term, le_of_mul-le-mul_right, mul-le-mul, mul-le-mul_left, mul-le-mul_right, div-mul-le_self, All-map, All-contains, Contains-get_or, volume, SheetParts, IsSheet, LogType, Candidate, ListKey}
use Rattle.buck_dp.proofs.Words.{candidate_bid, candidate_at, IsInBand, IsSmall, IsCandidate, IsLed, IsLeading, IsNext, IsPruned, IsTerm, AreTerms, AreCandidates, cell_of, row_of, IsCell, IsRow, LogTypes, CandidateList, HasLogTypes}
use Rattle.buck_dp.proofs.Words.{Contains-push, Contains-push_cases, Contains-append_left}
use Rattle.buck_dp.proofs.ListLemmas.{more_at, place_of}
use Rattle.buck_dp.proofs.TopLemmas.{IsAtMost-refl, worth_at_most}

-- there a millimetre of a log is more than the cubic centimetre that a whole volume may lack
outbid : (d price l other k : ℕ) → 36 ≤ d → other * k + price < price * l → other * volume d k < price * volume d l
outbid d price l other k thick less =
    let square : 36 * 36 ≤ d * d = mul-le-mul thick thick in
    let gap : (other * k + price + 1) * (d * d) ≤ price * l * (d * d) = mul-le-mul_right (d * d) (omega arith) in
    let part : price * (36 * 36) ≤ price * (d * d) = mul-le-mul_left price square in
    let high : other * (volume d k * 10000000) ≤ other * (d * d * k * 7854) =
    mul-le-mul_left other (div-mul-le_self (d * d * k * 7854) 10000000) in
    let low : price * (d * d * l * 7854) ≤ price * (volume d l * 10000000 + 10000000) =
    mul-le-mul_left price (omega arith) in
    omega arith

-- what is outbid is worth less
led_less : (key : ListKey) (p q : Candidate) (d : ℕ) → IsInBand key.band d → IsLeading key p → IsLed p q
    → (candidate_bid q d).worth < (candidate_bid p d).worth
led_less key p q d in_band leads led = search (rules, outbid, ne_eqb)

-- what ties with a candidate bids no more
tied_at_most : (p q : Candidate) (d : ℕ) → IsTied p q → IsAtMost (candidate_bid q d) (candidate_bid p d)
tied_at_most p q d tied =
    rw (tied.length, tied.kind) (grind (arith, tied.rank, (mul-le-mul_right (volume d q.term.length) tied.price)))

-- what outbids a candidate outbids all that tie with it
led_tied : (q p x : Candidate) → IsLed q p → IsTied p x → IsLed q x
led_tied q p x led tied =
    let price : x.price * p.term.length ≤ p.price * p.term.length = mul-le-mul_right p.term.length tied.price in
    grind (arith, led, tied, price)

-- a candidate is put behind a list, of which only what it outbids was dropped
pub put_behind : (key : ListKey) (old list : List Candidate) (q : Candidate)
    → ((x : Candidate) → Contains list x → Contains old x)
    → ((x : Candidate) → Contains old x → Contains list x ⊎ (IsLeading key q × IsLed q x))
    → IsNext key q old (list ++ q ∷ [])
put_behind key old list q real rest = record {
  real = λ x has. elim (Contains-push_cases list q x has) [ inl was ↦ inl (real x was) | inr new ↦ inr new ];
  met = λ x c. elim (rest c.0 c.1) [
    | inl has ↦ (c.0, Contains-append_left list (q ∷ []) c.0 has, c.2)
    | inr led ↦ (q, Contains-push list q, grind (arith, c.2, led, led_tied))
  ];
  own = (q, Contains-push list q, inl refl);
}

module _ {key : ListKey} {prices : List ℕ} {terms : List Term} {list : List Candidate} {n : ℕ} (d : Term)
    (lt : n < length terms) (was : IsPruned key prices terms n list) where
  -- a list stays pruned if the next term is no taker's
  pub pruned_past : (IsTaker key.takers (get_or terms n d).assortment → ⊥) → IsPruned key prices terms (n + 1) list
  pruned_past none = record {
    real = was.real;
    met = more_at (λ k t. IsTaker key.takers t.assortment → IsCovered key list (candidate_at prices t)) terms n
        (get_or terms n d) (slice_get-get_or terms n d lt) was.met (λ taker. absurd (none taker));
  }

  -- and with the candidate of one that is
  pub pruned_on : {new : List Candidate} → IsTaker key.takers (get_or terms n d).assortment
      → IsNext key (candidate_at prices (get_or terms n d)) list new → IsPruned key prices terms (n + 1) new
  pruned_on {new} taker next = record {
    real = λ q has. elim (next.real q has) [
      | inl old ↦ was.real q old
      | inr same ↦ (get_or terms n d, Contains-get_or terms n d lt, taker, same)
    ];
    met = more_at (λ k t. IsTaker key.takers t.assortment → IsCovered key new (candidate_at prices t)) terms n
        (get_or terms n d) (slice_get-get_or terms n d lt)
        (λ k t before at takes. next.met _ (was.met k t before at takes)) (λ takes. next.own);
  }

-- what is in a list of what is made of others is made of one of these
pub Contains-map : {X Y : Type 0} (f : X → Y) (xs : List X) (x : X) → Contains xs x → Contains (map f xs) (f x)
Contains-map f xs x has =
    (has.0, omega (arith, length-map xs f, has.1), get_or-map f xs has.0 x (f x) has.1 ∙ ap f has.2)

-- a pruned list of all terms at their prices has the candidates
pub list_right : {s : SheetParts} {types : List LogType} {key : ListKey} {n : ℕ} {terms : List Term}
    {list : List Candidate} → IsSheet s → AreTerms s.instruction types key.band (length types) terms
    → IsPruned key s.prices terms n list → length terms ≤ n
    → AreCandidates s types key list
list_right {s} {types} {key} {terms = terms} {list} valid are pruned all =
    let right : (t : Term) → Contains terms t → IsTerm s.instruction types key.band t =
    λ t has. All-contains (λ t. IsTerm s.instruction types key.band t) terms t are.real has in
    record {
      real = λ k q lt.
          let r = pruned.real _ (Contains-get_or list k q lt) in
          subst (λ x. IsCandidate s types key.takers key.band x) r.3
          ((right r.0 r.1).candidate s.version s.prices valid key.takers r.2);
      met = λ steps trim d bid in_band b.
          let m = are.met s.version s.prices valid key.takers steps trim d bid in_band (omega (arith, b.rank)) b in
          let q : Candidate = candidate_at s.prices m.0 in
          let p = pruned.met m.1.0 m.0 (omega (arith, m.1.1, all)) (place_of terms m.0 m.1) m.2 in
          let led = led_less key p.0 q d in_band in
          let tied = tied_at_most p.0 q d in
          (p.0, p.1, grind (arith, p.2, m.3, m.5, led, tied, worth_at_most, IsAtMost-refl), grind (arith, p.2, m.4));
    }

module _ (s : SheetParts) (m : LogTypes) (l : CandidateList Candidate) (d : ℕ) (valid : IsSheet s)
    (types : HasLogTypes s.instruction m) (candidates : AreCandidates s m.list.items l.key l.list.items)
    (in_band : IsInBand l.key.band d) where
  -- no candidate is for longer logs than the log types have
  short_one : (q : Candidate) → IsCandidate s m.list.items l.key.takers l.key.band q
      → IsSmall q × (q.term.steps ≤ m.most_steps)
  short_one q is =
      let b = is.bids d in_band in
      let long : q.term.steps * s.instruction.«module» ≤ m.most_steps * s.instruction.«module» =
      omega (arith, b.length, types.long q.term.rank b.rank) in
      (is.small, le_of_mul-le-mul_right long (omega (arith, valid.valid.module_range)))

  pub candidate_short : All (λ q. IsSmall q × (q.term.steps ≤ m.most_steps)) l.list.items
  candidate_short = λ k q lt. short_one _ (candidates.real k q lt)

  -- the row that is made of a candidate list has what takers bid at a diameter of the band
  pub row_right : IsRow s m.list.items l.key.takers d m.most_steps (row_of m.most_steps d l.list.items)
  row_right = record {
    real = All-map (λ c. IsCell s m.list.items l.key.takers d m.most_steps c) (cell_of m.most_steps d) l.list.items
        (λ k q lt.
        let is = candidates.real k q lt in
        record { bids = is.bids d in_band; rise = is.rise; placed = (omega (arith, (short_one _ is).1), refl) });
    met = λ steps trim bid b.
        let o = candidates.met steps trim d bid in_band b in
        (cell_of m.most_steps d o.0, Contains-map (cell_of m.most_steps d) l.list.items o.0 o.1, o.2, o.3);
  }
