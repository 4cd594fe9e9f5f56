-- Base prices, class by class, and prices within their spans.
use Rattle.std.proofs.Common.{◌≡◌, ℕ, ◌+◌, ◌*◌, ◌<◌, ◌≤◌, inl, inr, List, [], ◌∷◌, length, length-append, take, take_all, get_or, slice_index, sum_by, All, refl, sym, ◌∙◌, ap, subst, arith, mul-le-mul_left}
use Rattle.std.specs.List.{flat_map, AllByRecursion}
use Rattle.std.proofs.lemmas.List.Concat.{get_or-flat_map}
use Rattle.std.proofs.lemmas.List.Elements.{All-append, recursion_from_All}
use Rattle.std.proofs.lemmas.List.{get_or_past}
use Rattle.std.proofs.lemmas.List.Folds.{length-flat_map-take}
use Rattle.std.proofs.lemmas.List.Sums.{sum_by-cons}
use Rattle.std.proofs.lemmas.Bool.{cases_lt}
use Rattle.std.proofs.lemmas.Grind.{get_or_default_zero}
use Rattle.buck_apt_instruction.specs.Instruction.{InstructionParts, AssortmentParts, IsInstruction, IsAssortment, classes, classes_of}
use Rattle.buck_value.specs.Sheet.{SheetParts, IsSheet, base_prices, span, IsPriceAt, sheet_of}

length_bases : (as_ : List AssortmentParts) → AllByRecursion IsAssortment as_
    → length (flat_map (λ a. a.prices) as_) ≡ sum_by classes_of as_
length_bases [] h = refl
length_bases (a ∷ as_) h =
    omega (
      arith,
      h.0.prices_number,
      length_bases as_ h.1,
      length-append a.prices (flat_map (λ a. a.prices) as_),
      sum_by-cons classes_of a as_,
    )

-- one base price for each class
pub length-base_prices : (i : InstructionParts) → IsInstruction i → length (base_prices i) ≡ classes i
length-base_prices i v =
    length_bases i.assortments (recursion_from_All IsAssortment i.assortments v.assortments_valid)

-- a number of a list of which none is above a bound, or the 0 past its end
low_at : (xs : List ℕ) (k most : ℕ) → All (λ x. x ≤ most) xs → slice_index xs k ≤ most
low_at xs k most all = elim (cases_lt k (length xs)) [
  | inl lt ↦ all k 0 lt
  | inr ge ↦ omega (arith, get_or_past xs k 0 ge)
]

all_low : (as_ : List AssortmentParts) → AllByRecursion IsAssortment as_
    → All (λ p. p ≤ 10000000) (flat_map (λ a. a.prices) as_)
all_low [] h = λ k d lt. absurd (omega arith)
all_low (a ∷ as_) h =
    All-append (λ p. p ≤ 10000000) a.prices (flat_map (λ a. a.prices) as_) h.0.prices_range (all_low as_ h.1)

pub base_price-le : (i : InstructionParts) (k : ℕ) → IsInstruction i → slice_index (base_prices i) k ≤ 10000000
base_price-le i k v =
    low_at (base_prices i) k 10000000
    (all_low i.assortments (recursion_from_All IsAssortment i.assortments v.assortments_valid))

pub span-le : (limit base : ℕ) → limit ≤ 1000 → span limit base ≤ base
span-le limit base le = let h : base * limit ≤ base * 1000 = mul-le-mul_left base le in omega arith

-- no price of a sheet is above 20,000,000
pub prices_low : (s : SheetParts) → IsSheet s → All (λ p. p ≤ 20000000) s.prices
prices_low s v = λ k d lt.
    let base = base_price-le s.instruction k v.valid in
    let span = span-le s.instruction.limit (slice_index (base_prices s.instruction) k) v.valid.limit_range in
    rw (get_or_default_zero s.prices k d lt) (omega (arith, (v.in_span k lt).1, base, span))

pub price-le : (s : SheetParts) (k : ℕ) → IsSheet s → slice_index s.prices k ≤ 20000000
price-le s k v = low_at s.prices k 20000000 (prices_low s v)

-- base prices lie within their own spans
pub base_in_span : (i : InstructionParts) (k : ℕ) → IsPriceAt i (base_prices i) k
base_in_span i k = (omega arith, omega arith)

-- the base price at place j of an assortment
pub base_at : (i : InstructionParts) (n j before : ℕ) (a : AssortmentParts)
    → n < length i.assortments → a ≡ get_or i.assortments n a
    → before ≡ length (flat_map (λ a. a.prices) (take n i.assortments))
    → j < length a.prices
    → slice_index (base_prices i) (before + j) ≡ slice_index a.prices j
base_at i n j before a lt is place in_a =
    rw place (get_or-flat_map (λ a. a.prices) i.assortments n j a 0 lt (subst (λ x. j < length x.prices) is in_a)
    ∙ ap (λ x. get_or x.prices j 0) (sym is))

-- the assortment's prices are among all
pub room : (i : InstructionParts) (n before : ℕ) (a : AssortmentParts) → IsInstruction i
    → n < length i.assortments → a ≡ get_or i.assortments n a
    → before ≡ length (flat_map (λ a. a.prices) (take n i.assortments))
    → before + length a.prices ≤ classes i
room i n before a valid lt is place =
    omega (
      arith,
      length-flat_map-take (λ a. a.prices) i.assortments n a lt,
      length-base_prices i valid,
      ap (λ x. length x.prices) is,
    )

-- the base prices make a sheet
pub base_sheet : (i : InstructionParts) (prices : List ℕ) → IsInstruction i → prices ≡ base_prices i
    → IsSheet (sheet_of 0 i prices)
base_sheet i prices v is = record {
  valid = v;
  one_each = ap length is ∙ length-base_prices i v;
  in_span = λ k lt. subst (λ ps. IsPriceAt i ps k) (sym is) (base_in_span i k);
}

-- what going over the assortments goes by
pub ruleset going_over = (room, base_at, take_all, length-base_prices)
