-- Which targets are valid, and why others are refused.
use Rattle.std.specs.Prelude.{◌≡◌, ◌≢◌, ℕ, ◌<◌, ◌≤◌, List, length, take, drop, sum, slice_index, EachIndex, slice_get, Some}
use Rattle.buck_apt_instruction.specs.Instruction.{InstructionParts, AssortmentParts, classes, classes_of, classes_before}
use Rattle.buck_book_postings.specs.declared.targets.TargetsFault.{TargetsFault}
use Rattle.buck_book_postings.specs.declared.targets.TargetsFault.TheVariants.{Count, Range, Sum}
use Rattle.buck_apt_instruction.specs.declared.slots.TheConstants.{TARGETS, MOST_TARGETS_TOGETHER}

-- what is wanted of the assortment at a place, over all its classes
abbrev pub targets_sum : InstructionParts → AssortmentParts → ℕ → List ℕ → ℕ
targets_sum i a at targets = sum (take (classes_of a) (drop (classes_before i at) targets))

abbrev pub IsLowAt : List ℕ → ℕ → Type 0
IsLowAt targets k = slice_index targets k ≤ TARGETS.high

abbrev pub IsLowSumAt : InstructionParts → List ℕ → ℕ → Type 0
IsLowSumAt i targets at =
    (a : AssortmentParts) → slice_get i.assortments at ≡ Some a → targets_sum i a at targets ≤ MOST_TARGETS_TOGETHER

-- valid targets: one for each class, none too great, and no assortment's too great together
pub record AreTargets (i : InstructionParts) (targets : List ℕ) : Type 0 where
  pub one_each : length targets ≡ classes i
  pub low : EachIndex targets (λ k. IsLowAt targets k)
  pub low_sums : EachIndex i.assortments (λ at. IsLowSumAt i targets at)

-- why targets are refused: the number of them, else the least class whose target is too great, else the least
-- assortment whose targets together are
abbrev pub IsTargetsFault : InstructionParts → List ℕ → TargetsFault → Type 0
IsTargetsFault i targets Count = length targets ≢ classes i
IsTargetsFault i targets (Range at) =
    (length targets ≡ classes i)
    × (at < length targets)
    × (IsLowAt targets at → ⊥)
    × ((k : ℕ) → k < at → IsLowAt targets k)
IsTargetsFault i targets (Sum at) =
    (length targets ≡ classes i)
    × EachIndex targets (λ k. IsLowAt targets k)
    × (at < length i.assortments)
    × (IsLowSumAt i targets at → ⊥)
    × ((k : ℕ) → k < at → IsLowSumAt i targets k)
