-- An instruction of which every assortment takes every grade, and which is the same in all else.
use Rattle.std.specs.Prelude.{ℕ, List, [], ◌∷◌, map}
use Rattle.buck_apt_instruction.specs.Instruction.{AssortmentParts, InstructionParts}
use Rattle.buck_apt_instruction.specs.Changed.{with_lists, with_assortments}

abbrev pub all_grades : List ℕ
all_grades = 1 ∷ 2 ∷ 3 ∷ 4 ∷ 5 ∷ 6 ∷ 7 ∷ 8 ∷ []

abbrev pub taking_all : AssortmentParts → AssortmentParts
taking_all a = with_lists all_grades a.prices a.targets a

abbrev pub grade_free : InstructionParts → InstructionParts
grade_free i = with_assortments i (map taking_all i.assortments)
