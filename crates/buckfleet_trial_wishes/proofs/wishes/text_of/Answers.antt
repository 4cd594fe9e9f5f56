use Rattle.buckfleet_trial_wishes.specs.WishLine.{whole_line, wishes_head}
use Rattle.buckfleet_trial_wishes.proofs.Gains.{line_more}
use Rattle.buckfleet_trial_wishes.proofs.wishes.text_of.Goals as goal

pub loop-one-preserved : goal.loop-one-preserved
loop-one-preserved c =
    line_more (wishes_head c.args.starts.now) (whole_line c.args.starts.now c.args.whole.now) c.args.told.now
    c.loop-one.one-index c.one-item.result c.loop-one.out.items c.as_slice.result.now c.extend_from_slice.new.self.items
    c.loop-one-test.true c.one-item.is c.loop-one.invariant c.as_slice.ensures.value
    c.in_ok-extend_from_slice.ensures.items
