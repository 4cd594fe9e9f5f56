-- A bucking instruction as clauses see it, its limits and the order of its classes. The limits are no rule of their
-- own: they follow from the chain of refusals in `Apt`. What passes all ten lines is within them. So is each
-- instruction, because one is made only by `read_apt`, or by `with` of one with other numbers in their ranges, or
-- `grade_free` of one with other grades, or `with_targets` or `with_prices` of one with other targets or prices within
-- limits.
use Rattle.std.specs.Prelude.{◌≡◌, ℕ, ◌+◌, ◌*◌, ◌%◌, ◌<◌, ◌≤◌, List, length, All, sum, sum_by, take, Option, Some, None, slice_get, ◌≢◌}
use Rattle.std.specs.List.Sorted.{IsStrictlyIncreasing}
use Rattle.buck_record.specs.bytes.White.{trim}
use Rattle.buck_apt_instruction.specs.declared.class.Class.{Class}

pub record AssortmentParts : Type 0 where
  pub name : List ℕ
  pub species : ℕ
  pub grades : List ℕ  -- the grades that are allowed
  pub price_kind : ℕ  -- 1 per cubic metre, 2 per piece
  pub diameters : List ℕ  -- the lower limit of each row, mm
  pub upper : ℕ  -- the exclusive upper diameter, mm
  pub lengths : List ℕ  -- the length of each column, mm
  pub prices : List ℕ  -- the base prices, row by row
  pub targets : List ℕ  -- the targets, row by row
  pub trim : ℕ  -- what a log takes up beyond its length, mm

pub record InstructionParts : Type 0 where
  pub «module» : ℕ  -- mm
  pub period : ℕ  -- stems
  pub limit : ℕ  -- per mille
  pub assortments : List AssortmentParts

abbrev pub IsWithin : ℕ → ℕ → ℕ → Type 0
IsWithin low high n = (low ≤ n) × (n ≤ high)

-- a byte of a name: from the space on, and none of | ~ and DEL
abbrev pub IsNameByte : ℕ → Type 0
IsNameByte b = (32 ≤ b) × (b ≢ 124) × (b ≢ 126) × (b ≢ 127)

-- how many classes an assortment has: a row for each lower limit, a column for each length
abbrev pub classes_of : AssortmentParts → ℕ
classes_of a = length a.diameters * length a.lengths

-- within the limits of the instruction file's table. The numbers are written out again on purpose: what is read is
-- proved to keep them, so a constant of `src/slots` that is too wide fails the proof.
pub record IsAssortment (a : AssortmentParts) : Type 0 where
  pub name_length : IsWithin 1 32 (length a.name)
  pub name_bytes : All (λ b. IsNameByte b) a.name
  pub name_trimmed : trim a.name ≡ a.name  -- no white byte at its ends
  pub species : IsWithin 1 255 a.species
  pub grades_number : IsWithin 1 8 (length a.grades)
  pub grades_range : All (λ g. IsWithin 1 8 g) a.grades
  pub grades_rise : IsStrictlyIncreasing a.grades
  pub price_kind : IsWithin 1 2 a.price_kind
  pub rows : IsWithin 1 32 (length a.diameters)
  pub diameters_range : All (λ d. d ≤ 1500) a.diameters
  pub diameters_rise : IsStrictlyIncreasing a.diameters
  pub upper_range : IsWithin 1 2000 a.upper
  pub upper_above : All (λ d. d < a.upper) a.diameters
  pub columns : IsWithin 1 32 (length a.lengths)
  pub lengths_range : All (λ l. IsWithin 500 30000 l) a.lengths
  pub lengths_rise : IsStrictlyIncreasing a.lengths
  pub prices_number : length a.prices ≡ classes_of a
  pub prices_range : All (λ p. p ≤ 10000000) a.prices
  pub targets_number : length a.targets ≡ classes_of a
  pub targets_range : All (λ t. t ≤ 1000000) a.targets
  pub targets_sum : sum a.targets ≤ 1000000000
  pub trim_range : a.trim ≤ 200

-- each length is a multiple of the module
abbrev pub IsOnModule : ℕ → AssortmentParts → Type 0
IsOnModule step a = All (λ l. l % step ≡ 0) a.lengths

pub record IsInstruction (i : InstructionParts) : Type 0 where
  pub module_range : IsWithin 10 1000 i.«module»
  pub period_range : IsWithin 1 1000 i.period
  pub limit_range : i.limit ≤ 1000
  pub assortments_number : IsWithin 1 16 (length i.assortments)
  pub assortments_valid : All IsAssortment i.assortments
  pub on_module : All (λ a. IsOnModule i.«module» a) i.assortments

-- the classes of the assortments before the one at place `at`
abbrev pub classes_before : InstructionParts → ℕ → ℕ
classes_before i at = sum_by classes_of (take at i.assortments)

-- all classes, assortment by assortment
abbrev pub classes : InstructionParts → ℕ
classes i = sum_by classes_of i.assortments

abbrev pub place_in : Option AssortmentParts → ℕ → ℕ → ℕ
place_in None row column = 0
place_in (Some a) row column = row * length a.lengths + column

-- the place of a class among all: assortment by assortment, and row by row
abbrev pub index_of : InstructionParts → Class → ℕ
index_of i c = classes_before i c.assortment + place_in (slice_get i.assortments c.assortment) c.row c.column

-- the class is one of the instruction's
pub record IsClass (i : InstructionParts) (c : Class) : Type 0 where
  pub assortment : AssortmentParts
  pub exists : slice_get i.assortments c.assortment ≡ Some assortment
  pub row : c.row < length assortment.diameters
  pub column : c.column < length assortment.lengths
