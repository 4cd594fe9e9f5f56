use Rattle.std.proofs.Common.{arith}
use Rattle.std.proofs.lemmas.Grind.{common_steps}
use Rattle.buck_value.proofs.Classes.{whole_steps}
use Rattle.buck_value.proofs.worth.wood_between.Goals as goal

pub returns-in-None-clause-grades : goal.returns-in-None-clause-grades
returns-in-None-clause-grades c = rw c.of.ensures (grind (arith, common_steps, c.grades_between.ensures))

pub returns-in-Some-clause-grades : goal.returns-in-Some-clause-grades
returns-in-Some-clause-grades c =
    let made = rw c.in-Some.is at c.requires.tables in
    let right = rw (
      made,
      whole_steps c.args.start c.args.step c.requires.places.0,
      whole_steps c.args.end c.args.step c.requires.places.1,
    ) at c.grades.ensures in
    rw c.of-in-Some.ensures right

pub returns-in-Some-clause-top : goal.returns-in-Some-clause-top
returns-in-Some-clause-top c =
    let made = rw c.in-Some.is at c.requires.tables in
    rw (made, whole_steps c.args.end c.args.step c.requires.places.1) at c.diameter.ensures.diameter
