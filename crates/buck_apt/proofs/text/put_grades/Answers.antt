use Rattle.buck_record.specs.writing.Written.{blank}
use Rattle.buck_record.proofs.SpacedLemmas.{spaced_goes_on, spaced_ends}
use Rattle.buck_apt.proofs.text.put_grades.Goals as goal

pub loop-grade-preserved : goal.loop-grade-preserved
loop-grade-preserved c =
    rw (c.in_ok-put_number.ensures.put, c.from.ensures)
    (spaced_goes_on blank c.args.grades.now c.loop-grade.out.items _ c.loop-grade.grade-index 0 c.loop-grade-test.true
    c.loop-grade.invariant)

pub returns : goal.returns
returns c =
    spaced_ends blank c.args.grades.now c.loop-grade.out.items _ c.loop-grade.grade-index c.loop-grade-test.false
    c.loop-grade.invariant
