-- The class of a lack.
use Rattle.std.proofs.Common.{◌≡◌, ℕ, ◌/◌, ◌<◌, List, length, get_or, Some, slice_get, sym, ◌∙◌, subst}
use Rattle.std.proofs.lemmas.Nat.{div_below}
use Rattle.std.proofs.lemmas.Option.{get_or_from_slice_get}
use Rattle.buck_apt_instruction.specs.Instruction.{AssortmentParts, IsAssortment, classes_of}

-- it is one of the assortment that was read
pub class_there : (xs ys : List AssortmentParts) (at class : ℕ) (a read : AssortmentParts) → ys ≡ xs
    → slice_get xs at ≡ Some a → read ≡ get_or ys at read → class < classes_of a
    → class < classes_of read
class_there xs ys at class a read same there is within =
    subst (λ (x : AssortmentParts). class < classes_of x)
    (sym (rw same at is ∙ get_or_from_slice_get xs at a read there)) within

-- so is its row
pub row_there : (a : AssortmentParts) (class columns : ℕ) → IsAssortment a → class < classes_of a
    → columns ≡ length a.lengths → class / columns < length a.diameters
row_there a class columns valid within is =
    subst (λ (n : ℕ). class / n < length a.diameters) (sym is)
    (div_below class (length a.lengths) (length a.diameters) valid.columns.0 within)
