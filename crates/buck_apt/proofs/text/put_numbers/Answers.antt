use Rattle.buck_record.specs.writing.Written.{blank}
use Rattle.buck_record.proofs.SpacedLemmas.{spaced_goes_on, spaced_ends}
use Rattle.buck_apt.proofs.text.put_numbers.Goals as goal

pub loop-number-preserved : goal.loop-number-preserved
loop-number-preserved c =
    rw (c.in_ok-put_number.ensures.put, c.from.ensures)
    (spaced_goes_on blank c.args.numbers.now c.loop-number.out.items _ c.loop-number.number-index 0 c.loop-number-test.true
    c.loop-number.invariant)

pub returns : goal.returns
returns c =
    spaced_ends blank c.args.numbers.now c.loop-number.out.items _ c.loop-number.number-index c.loop-number-test.false
    c.loop-number.invariant
