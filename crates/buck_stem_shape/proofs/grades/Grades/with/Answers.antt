use Rattle.buck_stem_shape.proofs.Zones.{set_grade}
use Rattle.buck_stem_shape.proofs.grades.Grades.with.Goals as goal

pub returns : goal.returns
returns c = λ g one.
    rw (← c.self.view_is) (set_grade c.self.inside.bits c.args.grade g c.requires.0 c.requires.1 one)
