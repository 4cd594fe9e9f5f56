-- Grades along a stem.
use Rattle.std.proofs.Common.{ℕ, List, [], ◌∷◌, nat_le, if◌then◌else◌, arith}
use Rattle.std.specs.List.{AllByRecursion}
use Rattle.std.proofs.lemmas.Bool.Decides.{nat_tests}
use Rattle.std.proofs.lemmas.List.Elements.{recursion_from_All}
use Rattle.buck_stem_shape.specs.Stem.{StemParts, IsStem, IsGrade, grade_from, grade_at}

-- a grade is 1 to 8 if the zones' are and the one before them is
grade_from_is : (before x : ℕ) (zones : List (ℕ × ℕ)) → AllByRecursion (λ z. IsGrade z.1) zones → IsGrade before
    → IsGrade (grade_from before zones x)
grade_from_is before x [] h p = p
grade_from_is before x (z ∷ zs) h p =
    grade_from_is (if nat_le z.0 x then z.1 else before) x zs h.1 (grind (arith, nat_tests), grind (arith, nat_tests))

-- a grade is 1 to 8
pub grade_at_is : (stem : StemParts) (x : ℕ) → IsStem stem → IsGrade (grade_at stem.zones x)
grade_at_is stem x v =
    grade_from_is 1 x stem.zones (recursion_from_All (λ z. IsGrade z.1) stem.zones v.grades_range)
    (omega arith, omega arith)
