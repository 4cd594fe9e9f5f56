-- Facts about zones that the crate's own functions show one another.
use Rattle.std.specs.Prelude.{◌≡◌, ℕ, ◌-◌, ◌<◌, ◌≤◌, List}
use Rattle.std.specs.Int.{bit_at}
use Rattle.buck_stem_shape.specs.Stem.{grade_from}

-- bit g - 1 of the mask is set
abbrev pub ShowsGrade : ℕ → ℕ → Type 0
ShowsGrade mask g = bit_at mask (g - 1) ≡ 1

-- some place from a up to b has grade g, with one grade before all zones
abbrev pub HasGradeFrom : ℕ → List (ℕ × ℕ) → ℕ → ℕ → ℕ → Type 0
HasGradeFrom before zones a b g = (x : ℕ) × (a ≤ x) × (x < b) × (grade_from before zones x ≡ g)
