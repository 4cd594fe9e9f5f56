-- The steps behind a profile, in runs of neighbouring steps with the same grades.
use Rattle.std.specs.Prelude.{ℕ, ◌+◌, ◌*◌, ◌<◌, ◌≤◌, List, length, slice_index_or}
use Rattle.buck_stem_shape.specs.declared.points.runs.Step.{Step}
use Rattle.buck_stem_shape.specs.points.Profile.{IsMask}

-- the steps from one up to another have the grades of one mask
abbrev pub ShowMask : List (ℕ × ℕ) → ℕ → ℕ → ℕ → ℕ → Type 0
ShowMask zones step from end mask = (k : ℕ) → from ≤ k → k < end → IsMask zones (k * step) ((k + 1) * step) mask

-- each has its grades, and they are those of the steps before it in its run
abbrev pub AreSteps : List (ℕ × ℕ) → ℕ → List Step → Type 0
AreSteps zones step steps = (k : ℕ) (d : Step) → k < length steps
    → ((slice_index_or steps k d).first ≤ k)
    × ShowMask zones step (slice_index_or steps k d).first (k + 1) (slice_index_or steps k d).mask
