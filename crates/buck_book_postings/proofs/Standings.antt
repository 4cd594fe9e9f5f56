-- How classes stand, and the prices that are answered to that.
use Rattle.buck_book_postings.proofs.Words.{◌≡◌, ℕ, ◌+◌, ◌*◌, ◌<◌, ◌≤◌, inl, inr, List, [], ◌∷◌, ◌++◌, length, slice_index, slice_get, Some, sym, arith, mul-le-mul_left, common_steps, cases_lt, get_or_push, get_or_append_left, length_push}
use Rattle.buck_book_postings.proofs.Words.{sum_by_more, slice_get_within, get_or_from_slice_get, Bor, Shared, Class, InstructionParts, AssortmentParts, IsInstruction, IsClass, classes, classes_of, classes_before, index_of, Standing}
use Rattle.buck_book_postings.proofs.Words.{IsInRange, Meets, SheetParts, sheet_of, base_prices, IsPriceAt, IsInSpan, IsSheetFault, SheetFault, Count, Price, base_price-le, Posting, targets_of, targets_sum, standing_at, standing_of}
use Rattle.buck_book_postings.proofs.Words.{AreCounts, Running, Tells, IsSheetAfter, standings_of, Section, StandingsParts, CanPrice, IsSection, IsClassOf, StandsAt, IsAnswer, ArePriced, AreBelow, standing_by}
use Rattle.std.specs.Fn.{FnReturnsAt}
use Rattle.buck_book_postings.proofs.Places.{number_at, inner_is, inner_lt, place_lt, in_assortment, ClassAt, class_at}
use Rattle.buck_book_postings.proofs.Wanted.{valid_at, part_within, target_within, target_low}

-- the base price of a class, by its place among all
pub base_is : (i : InstructionParts) (c : Class) → IsInstruction i → (k : IsClass i c)
    → slice_index (base_prices i) (index_of i c)
    ≡ slice_index k.assortment.prices (c.row * length k.assortment.lengths + c.column)
base_is = number_at (λ a. a.prices) (λ a w. w.prices_number)

-- a price in the relation lies within the span
pub meets_within : (s : Standing) (price : ℕ) → Meets s price → IsInSpan s.limit s.base price
meets_within s price m = grind (arith, common_steps)

-- a price in the relation is at most twice the greatest base price
pub meets_low : (s : Standing) (price : ℕ) → IsInRange s → Meets s price → price ≤ 20000000
meets_low s price r m = grind (arith, meets_within, mul-le-mul_left)

-- a class of an assortment is a class of the instruction
abbrev pub class_in : (i : InstructionParts) (a : AssortmentParts) (c : Class) → IsClassOf i a c → IsClass i c
class_in i a c k = record { assortment = a; exists = k.exists; row = k.row; column = k.column }

-- how a class stands by what was read is how it stands
pub stands_by : (s : StandingsParts) (a : AssortmentParts) (c : Class) (base limit target targets count counts : ℕ)
    → base ≡ slice_index (base_prices s.instruction) (index_of s.instruction c)
    → limit ≡ s.instruction.limit
    → target ≡ slice_index s.targets (index_of s.instruction c)
    → targets ≡ targets_sum s.instruction a c.assortment s.targets
    → count ≡ slice_index s.by_class (index_of s.instruction c)
    → counts ≡ slice_index s.by_assortment c.assortment
    → record { base = base; limit = limit; target = target; targets = targets; count = count; counts = counts }
    ≡ standing_by s a c
stands_by s a c base limit target targets count counts b l t ts n ns = cc

-- the classes before the next assortment are those before this one, and its own
pub before_next : (i : InstructionParts) (a : AssortmentParts) (at : ℕ) → slice_get i.assortments at ≡ Some a
    → classes_before i (at + 1) ≡ classes_before i at + length a.diameters * length a.lengths
before_next i a at exists =
    rw (get_or_from_slice_get i.assortments at a a exists) at
    (sum_by_more classes_of i.assortments at a (slice_get_within i.assortments at a exists))

-- by running counts that can be a history's, a class stands in range
pub stands_in_range : (s : StandingsParts) (a : AssortmentParts) (c : Class) → IsClassOf s.instruction a c → CanPrice s
    → IsInRange (standing_by s a c)
stands_in_range s a c k can =
    grind (arith, slice_get_within, target_within, inner_lt, inner_is, base_price-le, target_low, class_in s.instruction a c k)

-- a class of a section
module _ (i : InstructionParts) (n : Running) (x : Section) (inner : ℕ) (k : IsSection (standings_of i n) x)
    (lt : inner < classes_of x.assortment.now) where
  -- what is read of it is there
  pub section_below : x.before + inner < classes i
  section_below = omega (arith, k.before_is, part_within i x.at x.assortment.now k.exists)

  pub section_price : inner < length x.assortment.now.prices
  section_price = omega (arith, (valid_at i x.at x.assortment.now k.can.valid k.exists).prices_number)

  -- how it stands by what was read is how it stands
  pub section_stands : (base limit target count counts : ℕ)
      → base ≡ slice_index x.assortment.now.prices inner
      → limit ≡ i.limit
      → target ≡ slice_index n.targets.value.items (x.before + inner)
      → count ≡ slice_index n.by_class.items (x.before + inner)
      → counts ≡ slice_index n.by_assortment.items x.at
      → StandsAt (standings_of i n) (x.before + inner) (record { base = base; limit = limit; target = target; targets = x.targets; count = count; counts = counts })
  section_stands base limit target count counts b l t o os =
      let w : ClassAt i (x.before + inner) = class_at i (x.before + inner) section_below in
      record {
        in_range = rw (each w.class w.is_class w.place)
            (stands_in_range (standings_of i n) w.is_class.assortment w.class
            (record { exists = w.is_class.exists; row = w.is_class.row; column = w.is_class.column }) k.can);
        each = each;
      }
    where
      each : (c : Class) (m : IsClass i c) → index_of i c ≡ x.before + inner
          → record { base = base; limit = limit; target = target; targets = x.targets; count = count; counts = counts }
          ≡ standing_by (standings_of i n) m.assortment c
      each c m is =
          let p = in_assortment i c m x.at inner x.assortment.now k.exists lt (grind (arith, k.before_is)) in
          let there = base_is i c k.can.valid m in
          grind (arith, stands_by)

-- a class more, of which it is true
pub one_more_below : (P : Standing → ℕ → Type 0) (s : StandingsParts) (prices : List ℕ) (n m : ℕ) (t : Standing)
    → StandsAt s (n + m) t → P t (slice_index prices (n + m)) → AreBelow P s prices (n + m)
    → AreBelow P s prices (n + (m + 1))
one_more_below P s prices n m t stands true below = record {
  each = λ c k lt. elim (cases_lt (index_of s.instruction c) (n + m)) [
    | inl old ↦ below.each c k old
    | inr new ↦
        let here : index_of s.instruction c ≡ n + m = omega arith in
        rw (← stands.each c k here) (rw (sym here) at true)
  ];
}

-- its price added to those of all classes before it
pub price_more : {F : Type 0} (g : Shared F (Bor Standing × Unit {0}) ℕ) (f : F) (s : StandingsParts) (prices : List ℕ)
    (price n m : ℕ) (t : Standing) → StandsAt s (n + m) t → FnReturnsAt g f t price → Meets t price
    → ArePriced g f s prices (n + m)
    → ArePriced g f s (prices ++ price ∷ []) (n + (m + 1))
price_more g f s prices price n m t stands given met priced = record {
  number_is = omega (arith, length_push prices price, priced.number_is);
  answered = one_more_below (IsAnswer g f) s (prices ++ price ∷ []) n m t stands
      (rw (← priced.number_is, get_or_push) (record { given = given; met = met }))
      (record {
        each = λ c k lt. rw (get_or_append_left prices (price ∷ []) 0 (index_of s.instruction c) (omega (arith, priced.number_is)))
            (priced.answered.each c k lt);
      });
}

-- by running counts that are right, a class stands as it does after the postings
pub standing_is : (i : InstructionParts) (targets by_class by_assortment : List ℕ) (ps : List Posting) (c : Class)
    → targets ≡ targets_of i ps → AreCounts i ps by_class by_assortment → (k : IsClass i c)
    → standing_at i k.assortment c targets (slice_index by_class (index_of i c))
    (slice_index by_assortment c.assortment) ≡ standing_of i k.assortment c ps
standing_is i targets by_class by_assortment ps c wanted counts k = grind (arith, slice_get_within)

-- a sheet of prices by running counts that are right
pub is_sheet : {F : Type 0} (g : Shared F (Bor Standing × Unit {0}) ℕ) (f : F) (i : InstructionParts) (ps : List Posting)
    (n : Running) (prices : List ℕ) (s : SheetParts) → Tells i ps n
    → ArePriced g f (standings_of i n) prices (classes i) → s ≡ sheet_of n.version i prices → IsSheetAfter g f i ps s
is_sheet g f i ps n prices s told priced made =
    grind (arith, standing_is, place_lt, told.version_is, priced.number_is)

-- prices within their spans, one for each class, make a sheet
pub no_fault : (i : InstructionParts) (prices : List ℕ) (fault : SheetFault) → length prices ≡ classes i
    → ((k : ℕ) → k < length prices → IsPriceAt i prices k) → IsSheetFault i prices fault → ⊥
no_fault i prices Count all inside e = e all
no_fault i prices (Price at) all inside e = e.2 (inside at e.1)

pub no_price_fault : {F : Type 0} (g : Shared F (Bor Standing × Unit {0}) ℕ) (f : F) (s : StandingsParts)
    (prices : List ℕ) (fault : SheetFault) → ArePriced g f s prices (classes s.instruction)
    → IsSheetFault s.instruction prices fault → ⊥
no_price_fault g f s prices fault priced =
    no_fault s.instruction prices fault priced.number_is (λ k lt.
    let w : ClassAt s.instruction k = class_at s.instruction k (omega (arith, priced.number_is)) in
    let p = priced.answered.each w.class w.is_class (omega (arith, w.place, priced.number_is)) in
    rw w.place at (meets_within _ _ p.met))

-- prices are made, and one price more
pub ruleset one_price_more = (before_next, meets_low, price_more)
