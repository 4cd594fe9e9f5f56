-- Searched values bound what may be cut from each point on, and the choices lead to the first of the best.
use Rattle.buck_dp.proofs.Words.{whole_steps, ◌≡◌, ℕ, ◌+◌, ◌*◌, ◌/◌, ◌<◌, ◌≤◌, ◌⊎◌, inl, inr, List, [], ◌∷◌, ◌++◌, append-nil, get_or, sym, ◌∙◌, ap, arith, add-mul, le-div, mul-le-mul_right, rules, cases_lt, refl, get_or_past, sum_by-cons}
use Rattle.buck_dp.proofs.Words.{zero-mul, Log, IsAllowed, cutting_worth, worth_of, end_of, AreLogTypes, IsFirstBest, IsAdmissible, IsLogBefore, IsBefore, GroundParts, points_of, ends_of, BidParts, bid_of, none, IsLogAt, bid_at, IsSearch}
use Rattle.buck_dp.proofs.Words.{log_at, next_after, IsCutFrom}
use Rattle.buck_dp.proofs.Lists.{end_within}
use Rattle.buck_dp.proofs.Logs.{log_there, ranks_before, start_is, after_first}

-- a list may be cut from a place on
abbrev pub IsCut : GroundParts → ℕ → List Log → Type 0
IsCut p from gs = IsCutFrom (IsAllowed p.sheet.instruction p.stem) (end_of p.sheet.instruction) from gs

-- what the logs of a list are worth
abbrev pub worth : GroundParts → List Log → ℕ
worth p gs = cutting_worth p.sheet p.stem gs

-- what may be cut from a place on may be cut from an earlier one on
pub cut_earlier : (p : GroundParts) (from next : ℕ) (gs : List Log) → from ≤ next → IsCut p next gs → IsCut p from gs
cut_earlier p from next [] le c = tt
cut_earlier p from next (g ∷ gs) le c = (omega (arith, c.0), c.1, c.2)

-- a list that may be cut from a point on is worth the point's value, and it is the first of those that are
pub record IsBestAt (p : GroundParts) (v : List BidParts) (i : ℕ) (gs : List Log) : Type 0 where
  pub cut : IsCut p (i * p.sheet.instruction.«module») gs
  pub is : worth p gs ≡ (bid_at v i).worth
  pub first : (hs : List Log) → IsCut p (i * p.sheet.instruction.«module») hs → worth p hs ≡ (bid_at v i).worth
      → (gs ≡ hs) ⊎ IsBefore gs hs

module _ {p : GroundParts} {v : List BidParts} {ch : List ℕ}
    (types : AreLogTypes p.sheet.instruction p.types.list.items) (was : IsSearch p v ch 0 0) where
  abbrev unit : ℕ
  unit = p.sheet.instruction.«module»

  pos : 0 < unit
  pos = omega (arith, was.valid.valid.module_range)

  -- what may be cut from the end of a log on may be cut from the point after it on
  cut_after : (g : Log) (gs : List Log) → IsCut p (end_of p.sheet.instruction g) gs
      → IsCut p (next_after p g * unit) gs
  cut_after g [] c = tt
  cut_after g (h ∷ hs) c =
      let at : h.start / unit * unit ≡ h.start = whole_steps h.start unit c.1.allows.on_module in
      search (rules, after_first, mul-le-mul_right, pos)

  -- what is cut from a point on is worth at most its value
  bounded : (i : ℕ) (hs : List Log) → IsCut p (i * unit) hs → worth p hs ≤ (bid_at v i).worth
  bounded i [] c = omega arith
  bounded i (h ∷ hs) c =
      let k : ℕ = h.start / unit in
      let l = log_there p was.valid k h types (sym (whole_steps h.start unit c.1.allows.on_module)) c.1 in
      let most = bounded (next_after p h) hs (cut_after h hs c.2) in
      let falls = (was.settled i (omega arith)).falls k (le-div i h.start unit pos c.0) in
      let each = (was.settled k (omega arith)).each l.0 (next_after p h) l.1 l.2 in
      grind (arith, most, falls, each, (sum_by-cons (worth_of p.sheet p.stem) h hs), l.2.worth, l.3)

  -- a choice other than 0 is the rank of a log from there, and the point is worth what that and the one after it bring
  pub chosen : (i : ℕ) → 0 < get_or ch i 0 → (j e w : ℕ) × IsLogAt p i j e (bid_of w (get_or ch i 0))
      × ((bid_at v i).worth ≡ w + (bid_at v e).worth)
  chosen i some = grind arith

  -- what is cut from a point on and worth its value starts later, or with the log of the choice or one behind it
  tie : (i : ℕ) (h : Log) (hs : List Log) → IsCut p (i * unit) (h ∷ hs) → worth p (h ∷ hs) ≡ (bid_at v i).worth
      → IsCut p ((i + 1) * unit) (h ∷ hs)
      ⊎ ((0 < get_or ch i 0) × (IsLogBefore (log_at p (get_or ch i 0) i) h
      ⊎ ((log_at p (get_or ch i 0) i ≡ h) × (worth p hs ≡ (bid_at v (next_after p h)).worth))))
  tie i h hs c e =
      let k : ℕ = h.start / unit in
      let at : k * unit ≡ h.start = whole_steps h.start unit c.1.allows.on_module in
      elim (cases_lt i k) [
        | inl more ↦ inl (rw (← at) (mul-le-mul_right unit (omega arith)), c.1, c.2)
        | inr less ↦
            let here : k ≡ i = omega (arith, le-div i h.start unit pos c.0) in
            let (k, more, l, same) = log_there p was.valid i h types (sym at ∙ ap (λ n. n * unit) here) c.1 in
            let most = bounded (next_after p h) hs (cut_after h hs c.2) in
            let each = (was.settled i (omega arith)).each k (next_after p h) more l in
            let sum = sum_by-cons (worth_of p.sheet p.stem) h hs in
            let tied : (more.rank ≤ get_or ch i 0) × (worth p hs ≡ (bid_at v (next_after p h)).worth) =
            grind (arith, most, each, sum, l.worth, same) in
            let some : 0 < get_or ch i 0 = omega (arith, tied.0, types.few, l.rank) in
            let (j, e, w, m, value) = chosen i some in
            let first = ranks_before p was.valid types i (get_or ch i 0) more.rank tied.0 m.rank.0 l.rank in
            inr (some, elim (rw same at first) [ inl one ↦ inr (one, tied.1) | inr less ↦ inl less ])
      ]

  -- if the choice is 0, the best from a point on is that from the next one on
  pub best_skipped : (i : ℕ) (gs : List Log) → get_or ch i 0 ≡ 0 → IsBestAt p v (i + 1) gs → IsBestAt p v i gs
  best_skipped i gs skip b =
      let even : (bid_at v i).worth ≡ (bid_at v (i + 1)).worth = grind arith in
      record {
        cut = cut_earlier p (i * unit) ((i + 1) * unit) gs (omega (arith, add-mul i 1 unit)) b.cut;
        is = b.is ∙ sym even;
        first = elim [
          | [] ↦ λ c e. search (rules, b.first, even)
          | h ∷ hs ↦ λ c e. grind (arith, (tie i h hs c e), (b.first (h ∷ hs)), even)
        ];
      }

  -- if a log is chosen, the best from its point on is that log and the best after it
  pub best_begun : {i : ℕ} {g : Log} → g ≡ log_at p (get_or ch i 0) i → 0 < get_or ch i 0
      → IsAllowed p.sheet.instruction p.stem g × (i < next_after p g)
      × ((gs : List Log) → IsBestAt p v (next_after p g) gs → IsBestAt p v i (g ∷ gs))
  best_begun {i} {g} is some =
      let (j, e, w, l, value) = chosen i some in
      let g : Log = log_at p (get_or ch i 0) i in
      let start = start_is p was.valid (get_or ch i 0) i in
      rw (is, l.ends) (
        l.allowed,
        omega (arith, l.later, l.order),
        λ gs b. record {
          cut = (omega (arith, start), l.allowed, search (arith, rules, cut_earlier, pos));
          is = omega (arith, sum_by-cons (worth_of p.sheet p.stem) g gs, b.is, l.worth, value);
          first = elim [
            | [] ↦ λ c e. inr tt
            | h ∷ hs ↦ λ c e. elim (tie i h hs c e) [
              | inl later ↦ inr (inl (inl (omega (arith, start, later.0, add-mul i 1 unit, pos))))
              | inr (_, inl less) ↦ inr (inl less)
              | inr (_, inr same) ↦
                  elim (b.first hs (rw (← l.ends, same.0) (cut_after h hs c.2)) (rw (← l.ends, same.0) same.1)) [
                    | inl all ↦ inl (cc (same.0, all))
                    | inr before ↦ inr (inr (same.0, before))
                  ]
            ]
          ];
        },
      )

  -- if logs and the best from a point past the last are the best, the logs are the first of the best cuttings
  pub best_first : {i : ℕ} {logs : List Log} → ((gs : List Log) → IsBestAt p v i gs → IsBestAt p v 0 (logs ++ gs))
      → ends_of p ≤ i → IsFirstBest p.sheet p.stem logs × ((bid_at v 0).worth ≡ cutting_worth p.sheet p.stem logs)
  best_first {i} {logs} on past =
      let far : points_of p * unit ≤ i * unit = mul-le-mul_right unit (omega arith) in
      let end : IsBestAt p v i [] = record {
        cut = tt;
        is = sym (ap (λ (b : BidParts). b.worth) (get_or_past v i none (omega (arith, was.number))));
        first = elim [
          | [] ↦ λ c e. inl refl
          | h ∷ hs ↦ λ c e. absurd (omega (arith, pos, c.0, end_within p.sheet.instruction p.stem h c.1))
        ];
      } in
      let b : IsBestAt p v 0 logs = rw (append-nil logs) at (on [] end) in
      let cut : IsAdmissible p.sheet p.stem logs = rw zero-mul at b.cut in
      let most : (hs : List Log) → IsAdmissible p.sheet p.stem hs → worth p hs ≤ worth p logs =
      λ hs c. rw b.is (bounded 0 hs (rw zero-mul c)) in (
        record {
          best = record { admissible = cut; none_outvalues = most };
          first = λ hs best other.
              let before = b.first hs (rw zero-mul best.admissible) in
              grind (arith, before, (most hs best.admissible), (best.none_outvalues logs cut), b.is);
        },
        sym b.is,
      )
