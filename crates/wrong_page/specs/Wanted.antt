-- Targets and counts for which wrong degrees and lists differ from the right ones.
use Rattle.std.specs.Prelude.{◌≡◌, ℕ, ◌<◌, List, [], ◌∷◌, length, slice_get, Some}
use Rattle.buck_apt_instruction.specs.Instruction.{AssortmentParts, InstructionParts, classes_of}
use Rattle.buck_book_postings.specs.Degree.{part_of}
use Rattle.buck_page_figures.specs.Lacking.{IsShort}

-- the first assortment has two classes, in so many rows of so many: one log is wanted of each, and two logs were cut, both
-- of the first
pub record AreTwoOfOne (rows columns : ℕ) (i : InstructionParts) (targets counts : List ℕ) : Type 0 where
  pub assortment : AssortmentParts
  pub there : slice_get i.assortments 0 ≡ Some assortment
  pub in_rows : length assortment.diameters ≡ rows
  pub in_columns : length assortment.lengths ≡ columns
  pub wanted : part_of i assortment 0 targets ≡ 1 ∷ 1 ∷ []
  pub cut : part_of i assortment 0 counts ≡ 2 ∷ 0 ∷ []

-- the first class of the first assortment lacks logs
pub record IsFirstShort (i : InstructionParts) (targets counts : List ℕ) : Type 0 where
  pub assortment : AssortmentParts
  pub there : slice_get i.assortments 0 ≡ Some assortment
  pub some : 0 < classes_of assortment
  pub short : IsShort (part_of i assortment 0 targets) (part_of i assortment 0 counts) 0
