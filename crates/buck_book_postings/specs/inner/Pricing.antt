-- What holds while the prices of a next sheet are made.
use Rattle.std.specs.Prelude.{◌≡◌, ℕ, ◌<◌, ◌≤◌, List, length, slice_index, slice_get, Some}
use Rattle.std.specs.Fn.{FnReturnsAt}
use denote.Ref.{Bor}
use denote.Param.Members.{Shared}
use Rattle.buck_apt_instruction.specs.declared.class.Class.{Class}
use Rattle.buck_apt_instruction.specs.Instruction.{InstructionParts, AssortmentParts, IsInstruction, IsClass, classes, classes_before, index_of}
use Rattle.buck_rule.specs.declared.standing.Standing.{Standing}
use Rattle.buck_rule.specs.Standing.{IsInRange}
use Rattle.buck_rule.specs.Relation.{Meets}
use Rattle.buck_book_postings.specs.declared.pricing.Section.{Section}
use Rattle.buck_book_postings.specs.Targets.{AreTargets, targets_sum}
use Rattle.buck_book_postings.specs.History.{standing_at}

-- what prices are made by: targets, and running counts
pub record StandingsParts : Type 0 where
  pub instruction : InstructionParts
  pub targets : List ℕ
  pub by_class : List ℕ
  pub by_assortment : List ℕ

-- prices can be made: the targets are valid, there is a count for each class and each assortment, no class has more
-- logs than its assortment, and no assortment too many
pub record CanPrice (s : StandingsParts) : Type 0 where
  pub valid : IsInstruction s.instruction
  pub targets : AreTargets s.instruction s.targets
  pub classes_number : length s.by_class ≡ classes s.instruction
  pub assortments_number : length s.by_assortment ≡ length s.instruction.assortments
  pub class_within : (c : Class) → IsClass s.instruction c
      → slice_index s.by_class (index_of s.instruction c) ≤ slice_index s.by_assortment c.assortment
  pub bounded : (a : ℕ) → slice_index s.by_assortment a ≤ 80000000

-- how a class stands by them
abbrev pub standing_by : StandingsParts → AssortmentParts → Class → Standing
standing_by s a c =
    standing_at s.instruction a c s.targets
    (slice_index s.by_class (index_of s.instruction c)) (slice_index s.by_assortment c.assortment)

-- of an assortment it is said how many classes come before, and what is wanted of all of its own
pub record IsSection (s : StandingsParts) (x : Section) : Type 0 where
  pub can : CanPrice s
  pub exists : slice_get s.instruction.assortments x.at ≡ Some x.assortment.now
  pub before_is : x.before ≡ classes_before s.instruction x.at
  pub targets_are : x.targets ≡ targets_sum s.instruction x.assortment.now x.at s.targets

-- how the class at a place stands
pub record StandsAt (s : StandingsParts) (place : ℕ) (t : Standing) : Type 0 where
  pub in_range : IsInRange t
  pub each : (c : Class) (k : IsClass s.instruction c)
      → index_of s.instruction c ≡ place → t ≡ standing_by s k.assortment c

-- what is true of all classes below a place: of how each stands, and of its price
pub record AreBelow (P : Standing → ℕ → Type 0) (s : StandingsParts) (prices : List ℕ) (place : ℕ) : Type 0 where
  pub each : (c : Class) (k : IsClass s.instruction c) → index_of s.instruction c < place
      → P (standing_by s k.assortment c) (slice_index prices (index_of s.instruction c))

-- the class is one of this assortment of the instruction
pub record IsClassOf (i : InstructionParts) (a : AssortmentParts) (c : Class) : Type 0 where
  pub exists : slice_get i.assortments c.assortment ≡ Some a
  pub row : c.row < length a.diameters
  pub column : c.column < length a.lengths

-- a price that the closure can give to a standing, and that keeps the price relation with it
pub record IsAnswer {F : Type 0} (g : Shared F (Bor Standing × Unit {0}) ℕ) (f : F)
    (s : Standing) (price : ℕ) : Type 0 where
  pub given : FnReturnsAt g f s price
  pub met : Meets s price

-- so many first classes have prices: each is the closure's answer to its class's standing
pub record ArePriced {F : Type 0} (g : Shared F (Bor Standing × Unit {0}) ℕ) (f : F)
    (s : StandingsParts) (prices : List ℕ) (number : ℕ) : Type 0 where
  pub number_is : length prices ≡ number
  pub answered : AreBelow (IsAnswer g f) s prices number

-- the price at a place doesn't keep the price relation with how the class there stands, and those before it do
pub record IsFirstWrong (s : StandingsParts) (prices : List ℕ) (place : ℕ) : Type 0 where
  pub within : place < classes s.instruction
  pub standing : Standing
  pub stands : StandsAt s place standing
  pub wrong : Meets standing (slice_index prices place) → ⊥
  pub least : AreBelow Meets s prices place
