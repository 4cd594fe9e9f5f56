use Rattle.std.proofs.Common.{◌≡◌, ◌++◌, drop}
use Rattle.buck_record.specs.writing.Written.{spaced, blank}
use Rattle.buck_apt.proofs.text.put_grades.Given as goal

abbrev pub invariant-loop-grade : goal.invariant-loop-grade
invariant-loop-grade l =
    l.out.items ++ spaced blank l.grade-index (drop l.grade-index l.grades) ≡ l.initial.out.items ++ spaced blank 0 l.grades
