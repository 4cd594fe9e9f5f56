-- Histories of cuts alone: their ends are the full periods, and two ways to say that one is lawful say the same.
use Rattle.buck_book_postings.proofs.Words.{◌≡◌, ℕ, zero, suc, ◌+◌, ◌-◌, ◌*◌, ◌/◌, ◌%◌, ◌<◌, ◌≤◌, inl, inr, List, [], ◌∷◌, map, length, take, slice_get, Some, sum_by, refl, sym, ◌∙◌, arith, rules, add-one, eqb-true, eq-eqb}
use Rattle.buck_book_postings.proofs.Words.{mul-le-mul_right, div-mul-le_self, cases_Bool, same_from_place, div-mul-add, mod-mul-add, same_number_lists, take-map, length-take-le, recursion_from_All, sum_by-cons, slice_get_within}
use Rattle.buck_book_postings.proofs.Words.{slice_get-map, slice_get_cases, same_Some, none-some, Class, InstructionParts, IsInstruction, IsClass, base_prices, length-base_prices, Posting, Cut, EntryParts, ends_from, cuts_from, ends_of}
use Rattle.buck_book_postings.proofs.Words.{cuts_since_end, targets_after, IsLawful, IsEnd, PricesMeet, prices_at, standing_of}
use Rattle.buck_book_postings.specs.CutsAlone as alone
use Rattle.buck_book_postings.proofs.Ends.{ends_yes, ends_no, cuts_yes, cuts_no, cuts_low, ends_past}
pub use Rattle.buck_book_postings.proofs.Places.{ClassAt, class_at}
use Rattle.buck_book_postings.proofs.Places.{number_at}
use Rattle.buck_book_postings.proofs.Standings.{base_is}
use Rattle.buck_book_postings.proofs.Wanted.{part_of}

-- the ends, each a full period, and the cuts since the last make up all entries
spread : (p n : ℕ) (es : List EntryParts) → ends_from p n (map Cut es) * p + cuts_from p n (map Cut es) ≡ n + length es
spread p n [] = omega arith
spread p n (e ∷ es) = search (rules, cases_Bool, eqb-true, ends_yes, cuts_yes, ends_no, cuts_no, (spread p 0 es), (spread p (n + 1) es))

-- if no demand stands, the ends are the full periods
module _ (i : InstructionParts) (es : List EntryParts) (pos : 0 < i.period) where
  pub ends_alone : ends_of i (map Cut es) ≡ length es / i.period
  ends_alone = grind (arith, div-mul-add, (cuts_low i.period 0 (map Cut es) pos pos), (spread i.period 0 es))

  pub cuts_alone : cuts_since_end i (map Cut es) ≡ length es % i.period
  cuts_alone = grind (arith, mod-mul-add, (cuts_low i.period 0 (map Cut es) pos pos), (spread i.period 0 es))

-- sums over postings that are cuts are sums over their entries
sum_of_cuts : (f : Posting → ℕ) (es : List EntryParts) → sum_by f (map Cut es) ≡ sum_by (λ e. f (Cut e)) es
sum_of_cuts f [] = refl
sum_of_cuts f (e ∷ es) = search (rules, sum_by-cons, (sum_of_cuts f es))

-- cuts leave the targets as they are
targets_stay : (ts : List ℕ) (es : List EntryParts) → targets_after ts (map Cut es) ≡ ts
targets_stay ts [] = refl
targets_stay ts (e ∷ es) = targets_stay ts es

-- a posting among cuts is a cut
cut_at : (es : List EntryParts) (k : ℕ) (x : Posting) → slice_get (map Cut es) k ≡ Some x
    → (e : EntryParts) × (slice_get es k ≡ Some e) × (x ≡ Cut e)
cut_at [] k x at = absurd (none-some x at)
cut_at (e ∷ es) zero x at = (e, refl, sym (same_Some (Cut e) x at))
cut_at (e ∷ es) (suc k) x at = cut_at es k x at

at_cut : (es : List EntryParts) (k : ℕ) (e : EntryParts) → slice_get es k ≡ Some e
    → slice_get (map Cut es) k ≡ Some (Cut e)
at_cut es k e at = grind (arith, slice_get-map)

-- after cuts alone a class stands the same in both words
same_standing : (i : InstructionParts) (c : Class) → IsInstruction i → (k : IsClass i c) (es : List EntryParts)
    → standing_of i k.assortment c (map Cut es) ≡ alone.standing_of i k.assortment c es
same_standing i c v k es =
    let target = number_at (λ a. a.targets) (λ a w. w.targets_number) i c v k in
    grind (arith, targets_stay, base_is, target, part_of (λ a. a.targets) (λ a w. w.targets_number), recursion_from_All, sum_of_cuts)

-- prices that keep the relation after cuts do so in words that know of no demand, and the other way round
pub meets_to_alone : (i : InstructionParts) (es : List EntryParts) (prices : List ℕ) → IsInstruction i
    → PricesMeet i (map Cut es) prices → alone.PricesMeet i es prices
meets_to_alone i es prices v m =
    record { one_each = m.one_each; each_meets = λ c k. rw (same_standing i c v k es) at (m.each_meets c k) }

pub meets_from_alone : (i : InstructionParts) (es : List EntryParts) (prices : List ℕ) → IsInstruction i
    → alone.PricesMeet i es prices → PricesMeet i (map Cut es) prices
meets_from_alone i es prices v m = grind (arith, same_standing)

-- base prices keep the relation if nothing was cut
pub base_meets : (i : InstructionParts) → IsInstruction i → alone.PricesMeet i [] (base_prices i)
base_meets i v = grind (arith, length-base_prices, base_is)

-- prices in the relation if nothing was cut are the base prices
pub base_alone : (i : InstructionParts) (prices : List ℕ) → IsInstruction i → alone.PricesMeet i [] prices
    → prices ≡ base_prices i
base_alone i prices v m =
    same_number_lists prices (base_prices i) (m.one_each ∙ sym (length-base_prices i v))
    (λ q lt.
    let w : ClassAt i q = class_at i q (omega (arith, m.one_each)) in
    search (rules, base_is))

module _ (i : InstructionParts) (sheets : List (List ℕ)) (es : List EntryParts) (v : IsInstruction i) where
  -- the ends before a place and the cuts since the last make up all entries there
  counted : (k : ℕ) → k ≤ length es
      → (ends_of i (take k (map Cut es)) * i.period + cuts_since_end i (take k (map Cut es)) ≡ k)
      × (cuts_since_end i (take k (map Cut es)) < i.period)
  counted k le = grind (arith, take-map, spread, length-take-le, cuts_low)

  -- the sheet of a version comes after so many full periods
  sheets_alone : IsLawful (alone.history_of i sheets es) → (w : ℕ) → w < length sheets
      → alone.PricesMeet i (take (w * i.period) es) (prices_at sheets w)
  sheets_alone l zero lt =
      let none : zero * i.period ≡ 0 = omega arith in
      rw (none, l.base_sheet) (base_meets i v)
  sheets_alone l (suc w) lt =
      let p : ℕ = i.period in
      let k : ℕ = w * p + (p - 1) in
      let next : k + 1 ≡ suc w * p = omega (arith, v.period_range.0) in
      let a : suc w * p ≤ length es / p * p = mul-le-mul_right p (grind (arith, ends_alone)) in
      let within : k < length es = omega (arith, div-mul-le_self (length es) p) in
      elim (slice_get_cases es k).1 [
        | inl some ↦
            let here = counted k (omega arith) in
            let same = same_from_place _ _ w (p - 1) p here.1 (omega (arith, v.period_range.0)) here.0 in
            let there =
            l.sheets_meet k (Cut some.0) (at_cut es k some.0 some.2) (eq-eqb _ _ (omega (arith, same.1))) in
            meets_to_alone i (take (suc w * p) es) (prices_at sheets (suc w)) v
            (rw (take-map Cut (k + 1) es, same.0, next, add-one) at there)
        | inr past ↦ absurd (omega (arith, past.0))
      ]

  pub to_alone : IsLawful (alone.history_of i sheets es) → alone.IsLawful i sheets es
  to_alone l = record {
    sheets_number = grind (arith, ends_alone);
    sheets_meet = sheets_alone l;
    entries_follow = λ k e at.
        let f = rw take-map at (l.postings_follow k (Cut e) (at_cut es k e at)) in
        grind (arith, sum_of_cuts, ends_alone);
  }

  -- an end is the last cut of a full period
  sheets_from_alone : alone.IsLawful i sheets es → (k : ℕ) (e : EntryParts) → slice_get es k ≡ Some e
      → IsEnd i (take k (map Cut es)) (Cut e)
      → PricesMeet i (take (k + 1) (map Cut es)) (prices_at sheets (ends_of i (take k (map Cut es)) + 1))
  sheets_from_alone l k e at is =
      let ends : ℕ = ends_of i (take k (map Cut es)) in
      let lt = slice_get_within es k e at in
      let next : (ends + 1) * i.period ≡ k + 1 = omega (arith, counted k (omega arith), eqb-true _ _ is) in
      let within : ends + 1 < length sheets =
      grind (arith, ends_past i (map Cut es) k (Cut e) (at_cut es k e at) is, ends_alone, l.sheets_number) in
      rw (take-map Cut (k + 1) es)
      (meets_from_alone i (take (k + 1) es) (prices_at sheets (ends + 1)) v (rw next at (l.sheets_meet (ends + 1) within)))

  pub from_alone : alone.IsLawful i sheets es → IsLawful (alone.history_of i sheets es)
  from_alone l = record {
    postings_follow = λ k x at.
        let c = cut_at es k x at in
        let f = l.entries_follow k c.0 c.1 in
        rw (c.2, take-map) (grind (arith, sum_of_cuts, ends_alone));
    sheets_number = grind (arith, ends_alone);
    base_sheet = search (rules, base_alone);
    sheets_meet = grind (arith, cut_at, sheets_from_alone);
  }
