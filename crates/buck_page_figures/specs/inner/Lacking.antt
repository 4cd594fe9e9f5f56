-- The classes that lack logs among those before a place.
use Rattle.std.specs.Prelude.{◌≡◌, ℕ, ◌<◌, ◌⊎◌, List, All, count_by, slice_get, Some}
use Rattle.std.specs.List.Sorted.{IsNonDecreasingBy}
use Rattle.buck_apt_instruction.specs.Instruction.{InstructionParts, AssortmentParts, classes_of}
use Rattle.buck_book_postings.specs.Degree.{part_of}
use Rattle.buck_page_figures.specs.Lacking.{IsLackOf, IsShort, names, place_of}
use Rattle.buck_page_figures.specs.declared.lack.Lack.{Lack}

-- class `c` of assortment `b` stands before class `class` of assortment `at`
abbrev pub IsBefore : ℕ → ℕ → ℕ → ℕ → Type 0
IsBefore at class b c = (b < at) ⊎ ((b ≡ at) × (c < class))

-- those that lack of all classes before one, in the order of the classes
pub record AreLacksBefore (i : InstructionParts) (targets counts unsteered : List ℕ) (at class : ℕ) (found : List Lack)
    : Type 0 where
  pub each_lacks : All (IsLackOf i targets counts unsteered) found
  pub before : All (λ l. IsBefore at class l.assortment l.class) found
  pub once : (b c : ℕ) (a : AssortmentParts)
      → slice_get i.assortments b ≡ Some a
      → c < classes_of a
      → IsBefore at class b c
      → IsShort (part_of i a b targets) (part_of i a b counts) c
      → count_by (names b c) found ≡ 1
  pub rising : IsNonDecreasingBy (place_of i) found
