-- The candidate of a log type.
use Rattle.buck_apt_instruction.specs.Instruction.{classes_of}
use Rattle.buck_dp.proofs.Words.{whole_steps, ◌↔◌, Contains-get_or, mul-div_left, candidate_bid, candidate_at, IsLogTypeOf, ◌≡◌, ℕ, ◌+◌, ◌-◌, ◌/◌, ◌%◌, ◌<◌, ◌≤◌, ◌⊎◌, inl, inr, suc, List, [], ◌∷◌, ◌++◌, Contains, length, get_or, slice_get}
use Rattle.buck_dp.proofs.Words.{Some, refl, sym, subst, ap, ◌∙◌, arith, cases_lt, unwrap_or, nat_le, nat_tests, same_Some, All-contains, AssortmentParts, InstructionParts, sum_by-le, IsInstruction, IsAssortment, IsWithin, classes}
use Rattle.buck_dp.proofs.Words.{sheet_of, price-le, mul-le-mul, last_position, row_at, LogType, log_type, log_type_at, HIGHEST_RANK, AreLogTypes, IsBand, IsBought, IsPriced, IsClassAt, HasNoPrice, point_after, Term, IsTaker, IsTerm}
use Rattle.buck_dp.proofs.Words.{AreTerms}
use Rattle.buck_dp.specs.declared.pricing.Band.{Band}
use Rattle.buck_dp.proofs.Words.{nat_cmp, false, ◌*◌, All, length-append, get_or_default, slice_get_within, IsNoLater, IsPermutation, IsSorted, All-weaker, All-push, Contains-push, Contains-append_left, Ordering}
use Rattle.buck_dp.proofs.ListLemmas.{on_module, has_at}
use Rattle.buck_dp.proofs.Logs.{one_step}
use Rattle.buck_dp.proofs.TopLemmas.{same_bid}
use Rattle.std.specs.Ordering.{ordering_then, is_lt}
use Rattle.std.specs.Cmp.{ranks}
use Rattle.std.proofs.lemmas.Cmp.{nat_cmp_total, on_total, then_total}
use Rattle.std.proofs.lemmas.List.Sorted.{Contains-permutation, All-permutation, length_permutation, sorted_far, ranks_by}

-- if no limit lies between two diameters, the last that is at most each is the same
same_last : (xs : List ℕ) (low d past : ℕ) → low ≤ d → d < past → ((l : ℕ) → Contains xs l → (l ≤ low) ⊎ (past ≤ l))
    → last_position (λ l. nat_le l d) xs ≡ last_position (λ l. nat_le l low) xs
same_last [] low d past from lt apart = refl
same_last (x ∷ xs) low d past from lt apart =
    let here : nat_le x d ≡ nat_le x low = grind (arith, nat_tests, apart x (0, omega arith, refl)) in
    rw (here, same_last xs low d past from lt (λ l has. apart l (suc has.0, omega (arith, has.1), has.2))) refl

-- so is the row of an assortment
pub row_still : {x : AssortmentParts} {low past row : ℕ} → IsBand x low past → row ≡ row_at x low → (d : ℕ) → low ≤ d
    → d < past → row_at x d ≡ row
row_still {x} {low} {past} band row_is d from lt =
    ap (λ o. unwrap_or o 0) (same_last x.diameters low d past from lt band.rows) ∙ sym row_is

-- and so is whether it has a price
pub bought_still : {x : AssortmentParts} {low past column : ℕ} → IsAssortment x → IsBand x low past → (d : ℕ) → low ≤ d
    → d < past → IsBought x column d ↔ IsBought x column low
bought_still {x} {low} valid band d from lt = (
  (λ b. record {
    thick_enough = grind (arith, band.rows _ (Contains-get_or x.diameters 0 0 (omega (arith, valid.rows))), b);
    thin_enough = omega (arith, b.thin_enough);
    priced = rw (row_still band refl d from lt) at b.priced;
  }),
  (λ b. record {
    thick_enough = omega (arith, b.thick_enough);
    thin_enough = omega (arith, b.thin_enough, band.upper);
    priced = rw (row_still band refl d from lt) b.priced;
  }),
)

-- the log type at a place is a length of an assortment
pub log_type_real : {i : InstructionParts} {types : List LogType} {place : ℕ} → AreLogTypes i types
    → place < length types → IsLogTypeOf i (get_or types place (log_type 0 0))
log_type_real {i} {types} {place} are lt = (are.all _).0 (Contains-get_or types place (log_type 0 0) lt)

-- an instruction has few classes
pub classes_few : (i : InstructionParts) → IsInstruction i → classes i ≤ 16384
classes_few i valid =
    let each = All-weaker IsAssortment (λ a. classes_of a ≤ 1024) (λ a v. mul-le-mul v.rows.1 v.columns.1) i.assortments
    valid.assortments_valid in
    omega (arith, sum_by-le classes_of 1024 i.assortments each, valid.assortments_number)

module _ {i : InstructionParts} {types : List LogType} {band : Band} {place : ℕ} {terms : List Term}
    (are : AreLogTypes i types) (lt : place < length types) (were : AreTerms i types band place terms) where
  abbrev o : LogType
  o = get_or types place (log_type 0 0)

  -- the log type of the rank of the place
  own : (rank : ℕ) → rank + place ≡ HIGHEST_RANK → log_type_at types rank ≡ o
  own rank sum = ap (λ n. get_or types n (log_type 0 0)) (omega arith)

  -- nobody bids for its logs: the terms stay
  pub none_put : (x : AssortmentParts) → slice_get i.assortments o.assortment ≡ Some x → HasNoPrice x o band
      → AreTerms i types band (place + 1) terms
  none_put x exists none = record {
    real = were.real;
    met = λ version prices valid takers steps trim d bid in_band past b.
        let before = were.met version prices valid takers steps trim d bid in_band in
        grind (arith, before, (own bid.rank), b, same_Some, none);
  }

  -- its term is put behind the others
  module _ (x : AssortmentParts) (exists : slice_get i.assortments o.assortment ≡ Some x)
      (few : o.assortment < 16) (k : ℕ) (is : IsClassAt i x o band k) where
    abbrev term : Term
    term = record {
      assortment = o.assortment;
      kind = x.price_kind;
      class = k;
      rank = HIGHEST_RANK - place;
      length = o.length;
      steps = o.length / i.«module»;
      trim = x.trim;
      rise = point_after i.«module» x.trim;
    }

    term_is : IsTerm i types band term
    term_is = record {
      class = is.within;
      few = few;
      candidate = λ version prices valid takers taker.
          let real = log_type_real are lt in
          let offered = rw (same_Some real.0 x (sym real.1 ∙ exists)) at real.2 in
          let on : o.length % i.«module» ≡ 0 = on_module i o.assortment x o.length valid.valid exists offered in
          let range : IsWithin 500 30000 o.length = search (arith, All-contains, has_at, valid.valid, exists, offered)
          in
          let e = own (HIGHEST_RANK - place) (omega (arith, are.few)) in
          record {
            small =
                record { length = range.1; price = price-le (sheet_of version i prices) k valid; rank = omega arith };
            rise = refl;
            bids = λ d in_band. record {
              rank = (omega arith, omega (arith, are.few));
              taker = subst (λ (b : LogType). IsTaker takers b.assortment) (sym e) taker;
              assortment = x;
              exists = rw e exists;
              priced = subst (λ (b : LogType). IsPriced x b d) (sym e) (is.priced d in_band);
              length = rw e (sym (whole_steps o.length i.«module» on));
              some = one_step o.length i.«module» (omega (arith, range.0)) on;
              own = refl;
              worth = rw (e, is.index d in_band) refl;
            };
          };
    }

    pub term_put : AreTerms i types band (place + 1) (terms ++ term ∷ [])
    term_put = record {
      real = All-push (λ t. IsTerm i types band t) terms term were.real term_is;
      met = λ version prices valid takers steps trim d bid in_band past b. elim
          (cases_lt HIGHEST_RANK (bid.rank + place)) [
            | inl before ↦
                let m = were.met version prices valid takers steps trim d bid in_band before b in
                (m.0, Contains-append_left terms (term ∷ []) m.0 m.1, m.2, m.3, m.4, m.5)
            | inr now ↦
                let e = own bid.rank (omega arith) in
                let same = same_Some b.assortment x (rw e at (sym b.exists) ∙ exists) in (
                  term,
                  Contains-push terms term,
                  rw e at b.taker,
                  ap (λ n. n / i.«module») (rw e at b.length)
                      ∙ mul-div_left steps (omega (arith, valid.valid.module_range)),
                  rw same at b.own,
                  same_bid (candidate_bid (candidate_at prices term) d) bid
                      (sym (b.worth ∙ rw (e, same, is.index d in_band) refl)) (omega arith),
                )
          ];
    }

-- a list has the log types of the first n assortments, and of the next one those of its first k lengths
pub record HasTypesTo (i : InstructionParts) (n k : ℕ) (types : List LogType) : Type 0 where
  pub few : length types ≤ 32 * n + k
  pub real : All (λ o. IsLogTypeOf i o) types
  pub whole : (a j l : ℕ) (x : AssortmentParts) → slice_get i.assortments a ≡ Some x → j < length x.lengths
      → get_or x.lengths j l ≡ l → (a < n) ⊎ ((a ≡ n) × (j < k)) → Contains types (log_type l a)

-- one length more
pub more_types : {i : InstructionParts} {n k l : ℕ} {x : AssortmentParts} {types : List LogType}
    → slice_get i.assortments n ≡ Some x → k < length x.lengths → l ≡ get_or x.lengths k 0 → HasTypesTo i n k types
    → HasTypesTo i n (k + 1) (types ++ log_type l n ∷ [])
more_types {i} {n} {k} {l} {x} {types} at lt is was =
    let own : Contains x.lengths l = (k, lt, get_or_default x.lengths k l 0 lt ∙ sym is) in
    let o : LogType = log_type l n in
    record {
      few = omega (arith, was.few, length-append types (o ∷ []));
      real = All-push (λ o. IsLogTypeOf i o) types o was.real (x, at, own);
      whole = λ a j m y there inside has which.
          let old = was.whole a j m y there inside has in
          grind (arith, cases_lt, which, get_or_default, Contains-push types o, old, Contains-append_left);
    }

-- by length, and then by assortment
abbrev log_type_cmp : LogType → LogType → Ordering
log_type_cmp a b = ordering_then (nat_cmp a.length b.length) (nat_cmp a.assortment b.assortment)

-- what isn't before another log type is no earlier
no_later : (a b : LogType) → is_lt (log_type_cmp b a) ≡ false → IsNoLater a b
no_later a b not = grind (arith, ranks)

-- the log types of all assortments, once they are sorted
pub types_sorted : (i : InstructionParts) (n : ℕ) (found types : List LogType) → length i.assortments ≤ n → n ≤ 16
    → HasTypesTo i n 0 found → IsPermutation found types → IsSorted log_type_cmp types → AreLogTypes i types
types_sorted i n found types whole few has moved sorted = record {
  few = omega (arith, has.few, length_permutation found types moved);
  all = λ o. (
    λ there. All-contains (IsLogTypeOf i) types o (All-permutation (IsLogTypeOf i) found types moved has.real) there,
    λ is. Contains-permutation found types o moved
        (has.whole o.assortment is.2.0 o.length is.0 is.1 is.2.1 is.2.2
        (inl (omega (arith, slice_get_within i.assortments o.assortment is.0 is.1)))),
  );
  order = λ j k le lt.
      let long = on_total (λ (o : LogType). o.length) nat_cmp_total in
      let total = then_total long (on_total (λ o. o.assortment) nat_cmp_total) in
      no_later _ _ (sorted_far _ (ranks_by total (λ o. o)) types sorted j k (log_type 0 0) le lt);
}
