use Rattle.std.proofs.Common.{◌∙◌}
use Rattle.buckfleet_trial_draws.proofs.Steps.{state_kept}
use Rattle.buckfleet_trial_draws.proofs.orders.pass.Goals as goal

pub loop-after-preserved : goal.loop-after-preserved
loop-after-preserved c =
    state_kept c.loop-after.after c.args.number c.loop-after.random c.below.new.random c.loop-after-test.true
    c.below.ensures.state
    ∙ c.loop-after.invariant
