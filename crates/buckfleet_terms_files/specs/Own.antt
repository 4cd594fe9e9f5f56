-- Which instructions ask for the same cuttings of a stem, but for prices and diameters.
use Rattle.std.specs.Prelude.{◌≡◌, ◌≢◌, ◌⊎◌, ℕ, ◌<◌, length, slice_get, Some}
use Rattle.buck_apt_instruction.specs.Instruction.{AssortmentParts, InstructionParts}
use Rattle.buckfleet_terms_files.specs.declared.fault.OwnFault.{OwnFault}
use Rattle.buckfleet_terms_files.specs.declared.fault.OwnFault.TheVariants.{Refused, Whole, Part}

-- two assortments take the same logs, but for their diameters and prices
pub record HasLogsOf (a own : AssortmentParts) : Type 0 where
  pub species : own.species ≡ a.species
  pub grades : own.grades ≡ a.grades
  pub lengths : own.lengths ≡ a.lengths
  pub trim : own.trim ≡ a.trim

abbrev pub HaveLogsAt : InstructionParts → InstructionParts → ℕ → Type 0
HaveLogsAt i own at = (a b : AssortmentParts) → slice_get i.assortments at ≡ Some a
    → slice_get own.assortments at ≡ Some b → HasLogsOf a b

-- an owner's instruction may stand beside another
pub record HasShapeOf (i own : InstructionParts) : Type 0 where
  pub on_module : own.«module» ≡ i.«module»
  pub number : length own.assortments ≡ length i.assortments
  pub logs : (at : ℕ) → HaveLogsAt i own at

-- the first item, by its number, in which two assortments differ though they may not
abbrev pub IsOther : AssortmentParts → AssortmentParts → ℕ → Type 0
IsOther a own number =
    ((number ≡ 912) × (own.species ≢ a.species))
    ⊎ (((number ≡ 913) × (own.species ≡ a.species) × (own.grades ≢ a.grades))
    ⊎ (((number ≡ 916) × (own.species ≡ a.species) × (own.grades ≡ a.grades) × (own.lengths ≢ a.lengths))
    ⊎ ((number ≡ 919) × (own.species ≡ a.species) × (own.grades ≡ a.grades) × (own.lengths ≡ a.lengths)
    × (own.trim ≢ a.trim))))

pub record IsOtherAt (i own : InstructionParts) (number at : ℕ) : Type 0 where
  pub on_module : own.«module» ≡ i.«module»
  pub same_number : length own.assortments ≡ length i.assortments
  pub before : (k : ℕ) → k < at → HaveLogsAt i own k
  pub theirs : AssortmentParts
  pub mine : AssortmentParts
  pub exists : slice_get i.assortments at ≡ Some theirs
  pub exists_too : slice_get own.assortments at ≡ Some mine
  pub other : IsOther theirs mine number

-- why an owner's instruction may not stand beside another: the module, else the number of assortments, else the least
-- assortment with other logs
abbrev pub IsShapeFault : InstructionParts → InstructionParts → OwnFault → Type 0
IsShapeFault i own (Refused fault) = ⊥
IsShapeFault i own (Whole number kind) =
    (kind ≡ 1)
    × (((number ≡ 901) × (own.«module» ≢ i.«module»))
    ⊎ ((number ≡ 910) × (own.«module» ≡ i.«module») × (length own.assortments ≢ length i.assortments)))
IsShapeFault i own (Part number kind at) = (kind ≡ 1) × IsOtherAt i own number at
