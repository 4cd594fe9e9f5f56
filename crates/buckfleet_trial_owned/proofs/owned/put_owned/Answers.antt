use Rattle.buckfleet_trial_owned.proofs.Owning.{behind_put}
use Rattle.buckfleet_trial_owned.proofs.owned.put_owned.Goals as goal

pub returns : goal.returns
returns c =
    behind_put c.args.best c.args.line.now c.args.drawn.now c.args.tail.now c.new-front.result.items
    c.put_line.new.out.items c.as_slice.result.now c.args.out.now.items c.put_behind.new.out.items
    c.put_behind.result c.new-front.ensures.items c.in_ok-put_line.ensures c.as_slice.ensures.value
    c.put_behind.ensures
