use Rattle.std.proofs.Common.{◌≡◌, ◌≤◌, ℕ, drop}
use Rattle.buck_stem_shape.specs.Stem.{grade_from, grade_at}
use Rattle.buck_stem_shape.proofs.points.runs.grade_end.Given as goal

-- some grade stands at x and before the zones that are left
abbrev pub invariant-loop-zone : goal.invariant-loop-zone
invariant-loop-zone l = (before : ℕ)
    × ((y : ℕ) → l.x ≤ y → grade_at l.zones y ≡ grade_from before (drop l.zone-index l.zones) y)
