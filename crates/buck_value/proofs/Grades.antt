-- The grades of a mask.
use Rattle.std.proofs.Common.{ℕ, ◌↔◌, List, Contains, refl, subst}
use Rattle.buck_stem_shape.specs.Stem.{StemParts, IsStem, IsGrade, HasGrade, HasGradesOf, grade_at}
use Rattle.buck_stem_shape.specs.points.Profile.{IsMask}
use Rattle.buck_stem_shape.proofs.Tables.{grade_at_is}
use Rattle.buck_value.specs.Wood.{AllIn}

-- a mask has allowed grades alone exactly if its places have
pub mask_allows : (stem : StemParts) (a b mask : ℕ) (grades : List ℕ) → IsStem stem → IsMask stem.zones a b mask
    → (AllIn mask grades ↔ HasGradesOf stem.zones a b grades)
mask_allows stem a b mask grades v is = (
  λ all x le lt.
      let r : IsGrade (grade_at stem.zones x) = grade_at_is stem x v in
      all (grade_at stem.zones x) r.0 r.1 ((is (grade_at stem.zones x) r.0).1 (x, le, lt, refl)),
  λ has g low high bit.
      let at : HasGrade stem.zones a b g = (is g low).0 bit in
      subst (λ h. Contains grades h) at.3 (has at.0 at.1 at.2),
)
