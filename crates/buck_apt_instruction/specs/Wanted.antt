-- An instruction with other targets, which is the same in all else, and which targets may be put in.
use Rattle.std.specs.Prelude.{◌≡◌, ℕ, ◌≤◌, List, length, take, drop, sum, slice_get, EachIndex, All, Some}
use Rattle.buck_apt_instruction.specs.Instruction.{AssortmentParts, InstructionParts, classes, classes_before, classes_of}
use Rattle.buck_apt_instruction.specs.Changed.{with_lists, with_assortments, each_with}

-- an assortment of which so much is wanted
abbrev pub wanting : List ℕ → AssortmentParts → AssortmentParts
wanting targets a = with_lists a.grades a.prices targets a

-- assortments, each of which wants as many of the targets as it has classes: the first the first ones
abbrev pub all_wanting : List ℕ → List AssortmentParts → List AssortmentParts
all_wanting targets assortments = each_with wanting targets assortments

abbrev pub with_targets : List ℕ → InstructionParts → InstructionParts
with_targets targets i = with_assortments i (all_wanting targets i.assortments)

-- the targets of an assortment come to no more than they may
abbrev pub HasLowSum : InstructionParts → List ℕ → ℕ → Type 0
HasLowSum i targets at = (a : AssortmentParts) → slice_get i.assortments at ≡ Some a
    → sum (take (classes_of a) (drop (classes_before i at) targets)) ≤ 1000000000

-- targets that may be put in: one for each class, assortment by assortment and row by row, none too great, and no
-- assortment's too great together
pub record MayBeWanted (i : InstructionParts) (targets : List ℕ) : Type 0 where
  pub one_each : length targets ≡ classes i
  pub low : All (λ t. t ≤ 1000000) targets
  pub low_sums : EachIndex i.assortments (λ at. HasLowSum i targets at)
