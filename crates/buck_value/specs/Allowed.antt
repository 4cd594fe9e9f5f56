-- Which logs of a stem an instruction allows, their class, and what each is worth.
use Rattle.std.specs.Prelude.{◌≡◌, ◌≢◌, ℕ, ◌+◌, ◌*◌, ◌%◌, ◌<◌, ◌≤◌, Bool, List, [], ◌∷◌, length, Contains, slice_get, slice_index, Option, Some, None, nat_le, position, ◌==◌, unwrap_or, if◌then◌else◌}
use Rattle.std.specs.Option.{option_map, option_or}
use Rattle.buck_apt_instruction.specs.declared.class.Class.{Class}
use Rattle.buck_apt_instruction.specs.Instruction.{InstructionParts, AssortmentParts}
use Rattle.buck_stem_shape.specs.Stem.{StemParts, stem_length, diameter_at, HasGradesOf}
use Rattle.buck_value.specs.declared.log.Log.{Log}
use Rattle.buck_value.specs.Sheet.{SheetParts, price_of}
use Rattle.buck_value.specs.Volume.{volume, worth_at}

abbrev pub log_of : ℕ → ℕ → ℕ → Log
log_of start length assortment = record { start = start; length = length; assortment = assortment }

-- where the length of a log ends, in millimetres from the butt: what lies behind it is trim
abbrev pub top_of : Log → ℕ
top_of g = g.start + g.length

-- the trim allowance of an assortment, if it is there
abbrev pub trim_in : Option AssortmentParts → ℕ
trim_in None = 0
trim_in (Some a) = a.trim

-- the trim allowance of a log
abbrev pub trim_of : InstructionParts → Log → ℕ
trim_of i g = trim_in (slice_get i.assortments g.assortment)

-- where a log ends: it takes up its length and the trim allowance
abbrev pub end_of : InstructionParts → Log → ℕ
end_of i g = top_of g + trim_of i g

-- the diameter where the length of a log ends
abbrev pub top_diameter : StemParts → Log → ℕ
top_diameter stem g = diameter_at stem.samples (top_of g)

-- the last place at which a test passes, if there is one: the last among the rest, or else the first
abbrev pub last_position : (ℕ → Bool) → List ℕ → Option ℕ
last_position test [] = None
last_position test (x ∷ xs) =
    option_or (option_map (λ k. k + 1) (last_position test xs)) (if test x then Some 0 else None)

-- the last row whose lower limit is at most d
abbrev pub row_at : AssortmentParts → ℕ → ℕ
row_at a d = unwrap_or (last_position (λ limit. nat_le limit d) a.diameters) 0

-- a row is the last whose lower limit is at most d
pub record IsRow (a : AssortmentParts) (d row : ℕ) : Type 0 where
  pub exists : row < length a.diameters
  pub reached : slice_index a.diameters row ≤ d
  pub last : (k : ℕ) → row < k → k < length a.diameters → d < slice_index a.diameters k

-- the column of a length: its place among the assortment's lengths
abbrev pub column_of : AssortmentParts → ℕ → ℕ
column_of a l = unwrap_or (position (λ x. x == l) a.lengths) 0

-- an assortment has a price for logs of a column with a top diameter
pub record IsBought (a : AssortmentParts) (column d : ℕ) : Type 0 where
  pub thick_enough : slice_index a.diameters 0 ≤ d
  pub thin_enough : d < a.upper
  pub priced : slice_index a.prices (row_at a d * length a.lengths + column) ≢ 0

-- an assortment allows a log, if logs start at the multiples of `step`
pub record Allows (step : ℕ) (a : AssortmentParts) (stem : StemParts) (g : Log) : Type 0 where
  pub species : a.species ≡ stem.species
  pub on_module : g.start % step ≡ 0
  pub length_offered : Contains a.lengths g.length
  pub within : top_of g + a.trim ≤ stem_length stem.samples
  pub grades : HasGradesOf stem.zones g.start (top_of g) a.grades
  pub bought : IsBought a (column_of a g.length) (top_diameter stem g)

-- the log's assortment is there and allows it; the prices in force have no part in it
pub record IsAllowed (i : InstructionParts) (stem : StemParts) (g : Log) : Type 0 where
  pub assortment : AssortmentParts
  pub exists : slice_get i.assortments g.assortment ≡ Some assortment
  pub allows : Allows i.«module» assortment stem g

-- the class of a log of an assortment, if that is there
abbrev pub class_in : Option AssortmentParts → StemParts → Log → Class
class_in None stem g = record { assortment = g.assortment; row = 0; column = 0 }
class_in (Some a) stem g =
    record { assortment = g.assortment; row = row_at a (top_diameter stem g); column = column_of a g.length }

-- the class of a log
abbrev pub class_of : InstructionParts → StemParts → Log → Class
class_of i stem g = class_in (slice_get i.assortments g.assortment) stem g

-- the price kind of an assortment, if it is there
abbrev pub kind_in : Option AssortmentParts → ℕ
kind_in None = 0
kind_in (Some a) = a.price_kind

-- what a log is worth, in millionths of the price unit, with the sheet's price of its class
unfoldable pub worth_of : SheetParts → StemParts → Log → ℕ
worth_of s stem g =
    worth_at
    (kind_in (slice_get s.instruction.assortments g.assortment))
    (price_of s (class_of s.instruction stem g))
    (volume (top_diameter stem g) g.length)
