-- Places of classes: one place, one class.
use Rattle.buck_book_postings.proofs.Words.{◌≡◌, ℕ, suc, ◌+◌, ◌-◌, ◌*◌, ◌/◌, ◌%◌, ◌<◌, ◌≤◌, inl, inr, List, [], ◌∷◌, Option, Some, None, length, take, get_or, slice_get, slice_index, sum_by, flat_map, refl, ◌∙◌, ap, arith, mul_comm, rules}
use Rattle.buck_book_postings.proofs.Words.{same_from_place, cases_lt, cases_eq, div-add-mod', div_below, mod_below, sum_by-cons, mul-add-lt, take-take, get_or-take, length-take-le, sum_by_more_le, get_or_from_slice_get, slice_get_within}
use Rattle.buck_book_postings.proofs.Words.{same_Some, Class, InstructionParts, AssortmentParts, IsInstruction, IsAssortment, recursion_from_All, get_or-drop, IsClass, classes, classes_of, classes_before, index_of, place_in, StemParts, Log}
use Rattle.buck_book_postings.proofs.Words.{class_in}
use Rattle.buck_book_postings.proofs.Wanted.{part_within, part_of}

-- the classes of an assortment come before those of a later one
earlier : (xs : List AssortmentParts) (at later : ℕ) (a : AssortmentParts) → slice_get xs at ≡ Some a
    → later < length xs → at < later
    → sum_by classes_of (take at xs) + classes_of a ≤ sum_by classes_of (take later xs)
earlier xs at later a exists within lt =
    let shown : length (take later xs) ≡ later = length-take-le later xs (omega arith) in
    let is : get_or (take later xs) at a ≡ a = get_or-take later xs at a lt ∙ get_or_from_slice_get xs at a a exists in
    let first : take at (take later xs) ≡ take at xs = take-take at later xs (omega arith) in
    grind (arith, sum_by_more_le)

-- a class's place in its assortment
pub inner_is : (i : InstructionParts) (c : Class) (k : IsClass i c)
    → index_of i c ≡ classes_before i c.assortment + (c.row * length k.assortment.lengths + c.column)
inner_is i c k = ap (λ o. classes_before i c.assortment + place_in o c.row c.column) k.exists

pub inner_lt : (i : InstructionParts) (c : Class) (k : IsClass i c)
    → c.row * length k.assortment.lengths + c.column < classes_of k.assortment
inner_lt i c k = search (rules, mul_comm, mul-add-lt)

-- of lists with a number for each class, one of each assortment, what stands at a class's place
pub number_at : (f : AssortmentParts → List ℕ) → ((a : AssortmentParts) → IsAssortment a → length (f a) ≡ classes_of a)
    → (i : InstructionParts) (c : Class) → IsInstruction i → (k : IsClass i c)
    → slice_index (flat_map f i.assortments) (index_of i c)
    ≡ slice_index (f k.assortment) (c.row * length k.assortment.lengths + c.column)
number_at f one i c v k =
    let part = part_of f one i.assortments c.assortment k.assortment (recursion_from_All _ _ v.assortments_valid) k.exists in
    grind (arith, inner_is, get_or-drop, get_or-take, inner_lt, part)

-- the class at a place of an assortment is of that assortment
pub in_assortment : (i : InstructionParts) (c : Class) (k : IsClass i c) (at inner : ℕ) (a : AssortmentParts)
    → slice_get i.assortments at ≡ Some a → inner < classes_of a → index_of i c ≡ classes_before i at + inner
    → (c.assortment ≡ at) × (k.assortment ≡ a) × (c.row * length a.lengths + c.column ≡ inner)
in_assortment i c k at inner a exists lt is =
    let low = earlier i.assortments c.assortment at k.assortment k.exists (slice_get_within _ _ _ exists) in
    let high = earlier i.assortments at c.assortment a exists (slice_get_within _ _ _ k.exists) in
    let own : c.assortment ≡ at = grind (arith, cases_lt, inner_is i c k, inner_lt i c k, low, high) in
    let same : k.assortment ≡ a = search (rules, same_Some) in
    (own, same, grind (arith, inner_is i c k))

-- two classes of one place are one class
pub one_place : (i : InstructionParts) (c d : Class) → IsClass i c → IsClass i d → index_of i c ≡ index_of i d → c ≡ d
one_place i c d k l e =
    let w : ℕ = length l.assortment.lengths in
    let p = in_assortment i c k d.assortment (d.row * w + d.column) l.assortment l.exists (inner_lt i d l)
    (e ∙ inner_is i d l) in
    let parts = same_from_place c.row c.column d.row d.column w (grind (arith, k.column)) l.column p.2 in
    λ j. record { assortment = p.0 j; row = parts.0 j; column = parts.1 j }

-- a log's class is of its assortment
pub class_of_assortment : (o : Option AssortmentParts) (stem : StemParts) (g : Log)
    → (class_in o stem g).assortment ≡ g.assortment
class_of_assortment None stem g = refl
class_of_assortment (Some a) stem g = refl

-- a class's place is below the number of classes
pub place_lt : (i : InstructionParts) (c : Class) → IsClass i c → index_of i c < classes i
place_lt i c k = omega (arith, inner_is i c k, inner_lt i c k, part_within i c.assortment k.assortment k.exists)

-- a place among all classes is one in some assortment
place_of : (as_ : List AssortmentParts) (q : ℕ) → q < sum_by classes_of as_
    → (at : ℕ) × (a : AssortmentParts) × (inner : ℕ) × (slice_get as_ at ≡ Some a) × (inner < classes_of a)
    × (sum_by classes_of (take at as_) + inner ≡ q)
place_of [] q lt = absurd (omega arith)
place_of (a ∷ as_) q lt = elim (cases_lt q (classes_of a)) [
  | inl here ↦ (0, a, q, refl, here, omega arith)
  | inr past ↦
      let p = place_of as_ (q - classes_of a) (omega (arith, sum_by-cons classes_of a as_)) in
      (suc p.0, p.1, p.2, p.3, p.4, omega (arith, p.5, sum_by-cons classes_of a (take p.0 as_)))
]

-- each place is a class's
pub record ClassAt (i : InstructionParts) (q : ℕ) : Type 0 where
  pub class : Class
  pub is_class : IsClass i class
  pub place : index_of i class ≡ q

pub class_at : (i : InstructionParts) (q : ℕ) → q < classes i → ClassAt i q
class_at i q lt =
    let p = place_of i.assortments q lt in
    let wide : ℕ = length p.1.lengths in
    let pos : 0 < wide = search (rules, cases_eq) in
    let c : Class = record { assortment = p.0; row = p.2 / wide; column = p.2 % wide } in
    let k : IsClass i c = record {
      assortment = p.1;
      exists = p.3;
      row = div_below p.2 wide (length p.1.diameters) pos p.4;
      column = mod_below p.2 wide pos;
    } in
    record { class = c; is_class = k; place = omega (arith, inner_is i c k, div-add-mod' p.2 wide, p.5) }
