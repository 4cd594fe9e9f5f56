use Rattle.std.proofs.Common.{ℕ, ◌<◌, ◌≤◌, ◌↔◌, ◌⊎◌, drop}
use Rattle.buck_stem_shape.specs.Stem.{HasGrade, IsGrade}
use Rattle.buck_stem_shape.specs.inner.Zones.{ShowsGrade, HasGradeFrom}
use Rattle.buck_stem_shape.proofs.stem.grades_in.Given as goal

abbrev pub invariant-loop-zone : goal.invariant-loop-zone
invariant-loop-zone l = record {
  below : l.from < l.b;
  grade : IsGrade l.grade;
  found : (g : ℕ) → 1 ≤ g → HasGrade l.zones l.a l.b g
      ↔ (ShowsGrade l.grades g ⊎ HasGradeFrom l.grade (drop l.zone-index l.zones) l.from l.b g);
}
