use Rattle.std.proofs.Common.{◌≡◌, drop}
use Rattle.buck_stem_shape.specs.Stem.{grade_from, grade_at, IsGrade}
use Rattle.buck_stem_shape.proofs.stem.grade_in.Given as goal

abbrev pub invariant-loop-zone : goal.invariant-loop-zone
invariant-loop-zone l = record {
  rest : grade_from l.grade (drop l.zone-index l.zones) l.x ≡ grade_at l.zones l.x;
  range : IsGrade l.grade;
}
