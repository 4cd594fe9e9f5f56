-- What stands at a place of a list.
use Rattle.std.proofs.Common.{◌≡◌, ℕ, ◌<◌, List, length, slice_get, get_or, Some, refl, ◌∙◌, ap}
use Rattle.std.proofs.lemmas.Option.{slice_get_read}
use Rattle.buck_apt_instruction.specs.Instruction.{AssortmentParts, InstructionParts}

-- the assortment at a place, as the code reads it
pub stands : (i : InstructionParts) (a : ℕ) (x : AssortmentParts) (all : List AssortmentParts)
    → all ≡ i.assortments → a < length i.assortments → x ≡ get_or all a x → slice_get i.assortments a ≡ Some x
stands i a x all same lt is =
    slice_get_read i.assortments (length i.assortments) a x refl lt
    (is ∙ ap (λ (xs : List AssortmentParts). get_or xs a x) same)
