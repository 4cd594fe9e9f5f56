-- Logs as if no assortment had a trim allowance, for the law that nothing else changes if each trim is 0. No other
-- contract leads here.
use Rattle.std.specs.Prelude.{◌≡◌, ℕ, ◌%◌, ◌≤◌, All, Contains, slice_get, Some}
use Rattle.buck_apt_instruction.specs.Instruction.{InstructionParts, AssortmentParts}
use Rattle.buck_stem_shape.specs.Stem.{StemParts, stem_length, HasGradesOf}
use Rattle.buck_value.specs.declared.log.Log.{Log}
use Rattle.buck_value.specs.Allowed.{IsBought, column_of, top_of, top_diameter}

-- no assortment has a trim
abbrev pub HasNoTrim : InstructionParts → Type 0
HasNoTrim i = All (λ a. a.trim ≡ 0) i.assortments

-- an assortment allows a log that ends with its length
pub record AllowsUntrimmed (step : ℕ) (a : AssortmentParts) (stem : StemParts) (g : Log) : Type 0 where
  pub species : a.species ≡ stem.species
  pub on_module : g.start % step ≡ 0
  pub length_offered : Contains a.lengths g.length
  pub within : top_of g ≤ stem_length stem.samples
  pub grades : HasGradesOf stem.zones g.start (top_of g) a.grades
  pub bought : IsBought a (column_of a g.length) (top_diameter stem g)

-- the log's assortment is there and allows it
pub record IsAllowedUntrimmed (i : InstructionParts) (stem : StemParts) (g : Log) : Type 0 where
  pub assortment : AssortmentParts
  pub exists : slice_get i.assortments g.assortment ≡ Some assortment
  pub allows : AllowsUntrimmed i.«module» assortment stem g
