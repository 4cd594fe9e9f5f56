-- The classes that lack logs, one after the other, and in order.
use Rattle.std.proofs.Common.{◌≡◌, ℕ, zero, suc, ◌+◌, ◌-◌, ◌*◌, ◌<◌, ◌≤◌, ◌==◌, List, [], ◌∷◌, ◌++◌, Bool, true, false, cond, All, length, take, get_or, refl, sym, ap, subst, ◌∙◌, inl, inr, arith, eq-eqb, eqb-true}
use Rattle.std.specs.Prelude.{◌&&◌, ◌⊎◌, count_by, sum, sum_by, slice_get, slice_index, Some}
use Rattle.std.proofs.lemmas.Bool.{ne_eqb, cases_lt}
use Rattle.std.proofs.lemmas.List.{take-take, get_or_past}
use Rattle.std.proofs.Math.Nat.{mul-le-mul_right}
use Rattle.std.proofs.lemmas.List.Elements.{All-head, All-tail, All-push, All-weaker, All-get_or, All-nil}
use Rattle.std.proofs.lemmas.List.Sorted.{IsNonDecreasingBy-push, IsNonDecreasingBy-short}
use Rattle.std.proofs.lemmas.List.Sums.{sum_by-cons, sum_by_push, sum_by_more, sum_by-take-le, get_or-le-sum_by}
use Rattle.std.proofs.lemmas.Option.{same_Some, slice_get_within, get_or_from_slice_get}
use Rattle.buck_apt_instruction.specs.Instruction.{InstructionParts, AssortmentParts, classes_of, classes_before}
use Rattle.buck_book_postings.specs.Degree.{part_of}
use Rattle.buck_page_figures.specs.Lacking.{IsLackOf, IsShort, names, place_of}
use Rattle.buck_page_figures.specs.inner.Lacking.{AreLacksBefore, IsBefore}
use Rattle.buck_page_figures.specs.declared.lack.Lack.{Lack}

-- what names a class, and what names another
named : (at class : ℕ) (l : Lack) → l.assortment ≡ at → l.class ≡ class → names at class l ≡ true
named at class l same_at same_class = rw (eq-eqb l.assortment at same_at, eq-eqb l.class class same_class) refl

unnamed : (at class : ℕ) (l : Lack) → ((l.assortment ≡ at) → (l.class ≡ class) → ⊥) → names at class l ≡ false
unnamed at class l other = go (l.assortment == at) refl
  where
    go : (b : Bool) → (l.assortment == at) ≡ b → names at class l ≡ false
    go true e = ap (λ b. b && (l.class == class)) e ∙ ne_eqb l.class class (other (eqb-true l.assortment at e))
    go false e = ap (λ b. b && (l.class == class)) e

-- a class before another is another
apart : (at class b c : ℕ) → IsBefore at class b c → b ≡ at → c ≡ class → ⊥
apart at class b c (inl lt) same_at same_class = omega (arith, lt, same_at)
apart at class b c (inr h) same_at same_class = omega (arith, h.1, same_class)

-- none of those before a class names it
count_none : (at class : ℕ) (found : List Lack) → All (λ (l : Lack). IsBefore at class l.assortment l.class) found
    → count_by (names at class) found ≡ 0
count_none at class [] all = refl
count_none at class (l ∷ found) all =
    let P = λ (m : Lack). IsBefore at class m.assortment m.class in
    let no : names at class l ≡ false = unnamed at class l (apart at class l.assortment l.class (All-head P l found all)) in
    sum_by-cons (λ (m : Lack). cond (names at class m) 1 0) l found
    ∙ rw no (omega (arith, count_none at class found (All-tail P l found all)))

-- what stands before a class stands before the next, and at the end of an assortment before the next assortment
before_next : (at class b c : ℕ) → IsBefore at class b c → IsBefore at (class + 1) b c
before_next at class b c (inl lt) = inl lt
before_next at class b c (inr h) = inr (h.0, omega (arith, h.1))

before_last : (at class b c : ℕ) → IsBefore at class b c → IsBefore (at + 1) 0 b c
before_last at class b c (inl lt) = inl (omega (arith, lt))
before_last at class b c (inr h) = inl (omega (arith, h.0))

-- classes of more assortments are more
classes_rise : (i : InstructionParts) (m n : ℕ) → m ≤ n → classes_before i m ≤ classes_before i n
classes_rise i m n le =
    subst (λ l. sum_by classes_of l ≤ classes_before i n) (take-take m n i.assortments le)
    (sum_by-take-le classes_of (take n i.assortments) m)

place_low : (i : InstructionParts) (at class : ℕ) (l : Lack) (a : AssortmentParts) → slice_get i.assortments l.assortment ≡ Some a
    → l.class < classes_of a → IsBefore at class l.assortment l.class
    → place_of i l ≤ classes_before i at + class
place_low i at class l a there within (inl lt) =
    let low : l.assortment < length i.assortments = slice_get_within i.assortments l.assortment a there in
    let one = sum_by_more classes_of i.assortments l.assortment a low in
    let same = ap classes_of (get_or_from_slice_get i.assortments l.assortment a a there) in
    omega (arith, one, same, within, classes_rise i (l.assortment + 1) at (omega (arith, lt)))
place_low i at class l a there within (inr h) = omega (arith, h.1, ap (classes_before i) h.0)

-- one class named once more
count_push : (at class : ℕ) (found : List Lack) (l : Lack)
    → count_by (names at class) (found ++ l ∷ []) ≡ count_by (names at class) found + cond (names at class l) 1 0
count_push at class found l = sum_by_push (λ (m : Lack). cond (names at class m) 1 0) found l

-- what stands before the next class stands before this one, or is this one
before_or_this : (at class b c : ℕ) → IsBefore at (class + 1) b c → IsBefore at class b c ⊎ ((b ≡ at) × (c ≡ class))
before_or_this at class b c (inl lt) = inl (inl lt)
before_or_this at class b c (inr h) = elim (cases_lt c class) [
  | inl lt ↦ inl (inr (h.0, lt))
  | inr le ↦ inr (h.0, omega (arith, le, h.1))
]

-- if all is wanted of nothing, or nothing was cut, no class has less than its share
index_low : (ns : List ℕ) (k : ℕ) → slice_index ns k ≤ sum ns
index_low ns k = elim (cases_lt k (length ns)) [
  | inl lt ↦ get_or-le-sum_by (λ n. n) ns k 0 lt
  | inr le ↦ omega (arith, get_or_past ns k 0 le)
]

pub none_short : (ts ns : List ℕ) (class : ℕ) → sum ts * sum ns ≡ 0 → IsShort ts ns class → ⊥
none_short ts ns class none short = omega (arith, none, short, mul-le-mul_right (sum ns) (index_low ts class))

pub not_short : (ts ns : List ℕ) (class target count wanted cut : ℕ) → target ≡ slice_index ts class
    → count ≡ slice_index ns class → wanted ≡ sum ts → cut ≡ sum ns → target * cut ≤ count * wanted
    → IsShort ts ns class → ⊥
not_short ts ns class target count wanted cut is_target is_count is_wanted is_cut enough short =
    let less : count * wanted < target * cut = rw (is_target, is_count, is_wanted, is_cut) short in
    omega (arith, less, enough)

module _ (i : InstructionParts) (ts ns us : List ℕ) where
  -- no class stands before the first
  pub lacks_none : AreLacksBefore i ts ns us 0 0 []
  lacks_none = record {
    each_lacks = All-nil (IsLackOf i ts ns us);
    before = All-nil (λ (l : Lack). IsBefore 0 0 l.assortment l.class);
    once = λ b c a there within before short. absurd (nothing_before b c before);
    rising = IsNonDecreasingBy-short (place_of i) [] (omega arith);
  }
    where
      nothing_before : (b c : ℕ) → IsBefore 0 0 b c → ⊥
      nothing_before b c (inl lt) = omega (arith, lt)
      nothing_before b c (inr h) = omega (arith, h.1)

  module _ (at : ℕ) (a : AssortmentParts) (there : slice_get i.assortments at ≡ Some a) where
    -- with the class, which lacks
    pub lacks_more : (class : ℕ) (found : List Lack) (l : Lack) → AreLacksBefore i ts ns us at class found
        → IsLackOf i ts ns us l → l.assortment ≡ at → l.class ≡ class
        → AreLacksBefore i ts ns us at (class + 1) (found ++ l ∷ [])
    lacks_more class found l found_all lacks same_at same_class = record {
      each_lacks = All-push (IsLackOf i ts ns us) found l found_all.each_lacks lacks;
      before =
          All-push (λ (m : Lack). IsBefore at (class + 1) m.assortment m.class) found l
          (All-weaker (λ (m : Lack). IsBefore at class m.assortment m.class) (λ (m : Lack). IsBefore at (class + 1) m.assortment m.class)
          (λ m. before_next at class m.assortment m.class) found found_all.before)
          (inr (same_at, omega (arith, same_class)));
      once = λ b c a' there' within before short. count_push b c found l ∙ elim (before_or_this at class b c before) [
        | inl h ↦ (
            let no : names b c l ≡ false = unnamed b c l (λ e f. apart at class b c h (sym e ∙ same_at) (sym f ∙ same_class)) in
            rw no (omega (arith, found_all.once b c a' there' within h short)))
        | inr h ↦ (
            let yes : names b c l ≡ true = named b c l (same_at ∙ sym h.0) (same_class ∙ sym h.1) in
            let none : count_by (names b c) found ≡ 0 = rw (h.0, h.1) (count_none at class found found_all.before) in
            rw yes (omega (arith, none)))
      ];
      rising = IsNonDecreasingBy-push (place_of i) found l found_all.rising
          (λ d some.
          let last = get_or found (length found - 1) d in
          let before = All-get_or (λ (m : Lack). IsBefore at class m.assortment m.class) found (length found - 1) d (omega (arith, some)) found_all.before in
          let is = All-get_or (IsLackOf i ts ns us) found (length found - 1) d (omega (arith, some)) found_all.each_lacks in
          let low = place_low i at class last is.assortment is.there is.within before in
          omega (arith, low, same_class, ap (classes_before i) same_at));
    }

    -- past a class that doesn't lack
    pub lacks_same : (class : ℕ) (found : List Lack) → AreLacksBefore i ts ns us at class found
        → (IsShort (part_of i a at ts) (part_of i a at ns) class → ⊥)
        → AreLacksBefore i ts ns us at (class + 1) found
    lacks_same class found found_all enough = record {
      each_lacks = found_all.each_lacks;
      before =
          All-weaker (λ (m : Lack). IsBefore at class m.assortment m.class) (λ (m : Lack). IsBefore at (class + 1) m.assortment m.class)
          (λ m. before_next at class m.assortment m.class) found found_all.before;
      once = λ b c a' there' within before short. elim (before_or_this at class b c before) [
        | inl h ↦ found_all.once b c a' there' within h short
        | inr h ↦ absurd (enough (this_short class b c a' there' h.0 h.1 short))
      ];
      rising = found_all.rising;
    }
      where
        this_short : (class b c : ℕ) (a' : AssortmentParts) → slice_get i.assortments b ≡ Some a' → b ≡ at → c ≡ class
            → IsShort (part_of i a' b ts) (part_of i a' b ns) c
            → IsShort (part_of i a at ts) (part_of i a at ns) class
        this_short class b c a' there' same_at same_class short =
            let same : a' ≡ a = same_Some a' a (sym there' ∙ ap (slice_get i.assortments) same_at ∙ there) in
            rw (← same, ← same_at, ← same_class) short

    -- behind all classes of the assortment
    pub lacks_last : (found : List Lack) → AreLacksBefore i ts ns us at (classes_of a) found
        → AreLacksBefore i ts ns us (at + 1) 0 found
    lacks_last found found_all = record {
      each_lacks = found_all.each_lacks;
      before =
          All-weaker (λ (m : Lack). IsBefore at (classes_of a) m.assortment m.class) (λ (m : Lack). IsBefore (at + 1) 0 m.assortment m.class)
          (λ m. before_last at (classes_of a) m.assortment m.class) found found_all.before;
      once = λ b c a' there' within before short.
          found_all.once b c a' there' within (still b c a' there' within before) short;
      rising = found_all.rising;
    }
      where
        still : (b c : ℕ) (a' : AssortmentParts) → slice_get i.assortments b ≡ Some a' → c < classes_of a'
            → IsBefore (at + 1) 0 b c
            → IsBefore at (classes_of a) b c
        still b c a' there' within (inr h) = absurd (omega (arith, h.1))
        still b c a' there' within (inl lt) = elim (cases_lt b at) [
          | inl h ↦ inl h
          | inr h ↦ (
              let same_at : b ≡ at = omega (arith, h, lt) in
              let same : a' ≡ a = same_Some a' a (sym there' ∙ ap (slice_get i.assortments) same_at ∙ there) in
              inr (same_at, subst (λ (x : AssortmentParts). c < classes_of x) same within))
        ]

    -- past an assortment of which no class lacks
    pub lacks_skip : (found : List Lack) → AreLacksBefore i ts ns us at 0 found
        → ((class : ℕ) → IsShort (part_of i a at ts) (part_of i a at ns) class → ⊥)
        → AreLacksBefore i ts ns us (at + 1) 0 found
    lacks_skip found found_all enough = lacks_last found (up (classes_of a))
      where
        up : (class : ℕ) → AreLacksBefore i ts ns us at class found
        up zero = found_all
        up (suc class) = subst (λ n. AreLacksBefore i ts ns us at n found) (omega arith) (lacks_same class found (up class) (enough class))
