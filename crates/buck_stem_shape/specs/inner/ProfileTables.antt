-- The tables behind a profile.
use Rattle.std.specs.Prelude.{◌≡◌, ◌+◌, ◌≤◌, length}
use Rattle.buck_stem_shape.specs.declared.points.profile.ProfileLists.{ProfileLists}
use Rattle.buck_stem_shape.specs.declared.points.profile.Tables.{Tables}
use Rattle.buck_stem_shape.specs.declared.points.profile.Tables.TheVariants.{Own, Lent}
use Rattle.buck_stem_shape.specs.Stem.{IsStem}
use Rattle.buck_stem_shape.specs.points.Profile.{ProfileParts, points_of}
use Rattle.buck_stem_shape.specs.inner.Diameters.{AreDiametersBy}
use Rattle.buck_stem_shape.specs.inner.Runs.{AreSteps}

-- the lists of a profile, whoever owns them
abbrev pub lists_of : Tables → ProfileLists
lists_of (Own lists) = lists
lists_of (Lent lists) = lists.now

-- the diameters and the steps are those of the stem
pub record AreTables (p : ProfileParts) (lists : ProfileLists) : Type 0 where
  pub valid : IsStem p.stem
  pub module_range : (10 ≤ p.«module») × (p.«module» ≤ 1000)
  pub diameters_number : length lists.diameters.items ≡ points_of p
  pub diameters_right : AreDiametersBy p.stem.samples p.«module» lists.diameters.items
  pub steps_number : length lists.steps.items + 1 ≡ points_of p
  pub steps : AreSteps p.stem.zones p.«module» lists.steps.items
