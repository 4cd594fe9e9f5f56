-- The samples and the zones of a stem as they are kept.
use Rattle.std.specs.Prelude.{ℕ, ◌≤◌, List, [], take}
use Rattle.buck_stem_shape.specs.declared.body.Form.{Form}
use Rattle.buck_stem_shape.specs.declared.body.Form.TheVariants.{Short, Long}

pub record BodyParts : Type 0 where
  pub samples : List ℕ
  pub zones : List (ℕ × ℕ)

abbrev pub body_of : List ℕ → List (ℕ × ℕ) → BodyParts
body_of samples zones = record { samples = samples; zones = zones }

-- what a form keeps
abbrev pub kept_in : Form → BodyParts
kept_in (Short count samples) = body_of (take count samples) []
kept_in (Long lists) = body_of lists.value.samples.items lists.value.zones.items

-- a short one has room for its samples
abbrev pub HasRoom : Form → Type 0
HasRoom (Short count samples) = count ≤ 7
HasRoom (Long lists) = Unit {0}
