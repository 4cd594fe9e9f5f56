-- A stem prepared for cutting under a sheet, as clauses see it.
use Rattle.std.specs.Prelude.{ℕ, ◌+◌, ◌*◌, ◌/◌, List, [], slice_get, slice_index, unwrap_or}
use Rattle.std.specs.Option.{option_map}
use Rattle.buck_stem_shape.specs.Stem.{StemParts, stem_length}
use Rattle.buck_value.specs.declared.log.Log.{Log}
use Rattle.buck_value.specs.Sheet.{SheetParts}
use Rattle.buck_value.specs.Allowed.{log_of}

pub record PreparedParts : Type 0 where
  pub sheet : SheetParts
  pub stem : StemParts

-- how many points there are, the places at which a log may start: the multiples of the module, the butt among them
abbrev pub points_of : PreparedParts → ℕ
points_of p = stem_length p.stem.samples / p.sheet.instruction.«module» + 1

-- the lengths of an assortment, by its place
abbrev pub lengths_of : PreparedParts → ℕ → List ℕ
lengths_of p a = unwrap_or (option_map (λ x. x.lengths) (slice_get p.sheet.instruction.assortments a)) []

-- the log that starts at point i, of an assortment, with the length of a column
abbrev pub log_at : PreparedParts → ℕ → ℕ → ℕ → Log
log_at p i a column = log_of (i * p.sheet.instruction.«module») (slice_index (lengths_of p a) column) a
