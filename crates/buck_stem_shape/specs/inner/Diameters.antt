-- Lists of diameters at each step along a stem.
use Rattle.std.specs.Prelude.{◌≡◌, ℕ, ◌+◌, ◌*◌, ◌<◌, List, length, slice_index}
use Rattle.buck_stem_shape.specs.Stem.{diameter_at}

-- a list has the diameter at each step
abbrev pub AreDiametersBy : List ℕ → ℕ → List ℕ → Type 0
AreDiametersBy samples step diameters =
    (k : ℕ) → k < length diameters → slice_index diameters k ≡ diameter_at samples (k * step)

-- and goes up to the step that is `part` mm past sample i
pub record AreDiametersTo (samples : List ℕ) (step i part : ℕ) (diameters : List ℕ) : Type 0 where
  pub right : AreDiametersBy samples step diameters
  pub up_to : length diameters * step ≡ 100 * i + part
