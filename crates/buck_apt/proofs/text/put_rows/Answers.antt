use Rattle.buck_record.specs.writing.Written.{row_start}
use Rattle.buck_record.proofs.SpacedLemmas.{spaced_goes_on, spaced_ends}
use Rattle.buck_apt.proofs.text.put_rows.Goals as goal

pub loop-i-preserved : goal.loop-i-preserved
loop-i-preserved c =
    rw c.in_ok-put_in_row.ensures
    (spaced_goes_on (row_start c.args.columns) c.args.numbers.now c.loop-i.out.items _ c.loop-i.i 0 c.loop-i-test.true
    c.loop-i.invariant)

pub returns : goal.returns
returns c =
    spaced_ends (row_start c.args.columns) c.args.numbers.now c.loop-i.out.items _ c.loop-i.i c.loop-i-test.false
    c.loop-i.invariant
