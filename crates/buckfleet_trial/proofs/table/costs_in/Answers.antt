use Rattle.std.proofs.Common.{◌∙◌, Some}
use Rattle.buckfleet_trial_sweep.specs.Table.{rate_of}
use Rattle.buckfleet_trial.specs.Trial.{IsFromNothing}
use Rattle.buckfleet_trial.proofs.Each.{zip_made_taken}
use Rattle.buckfleet_trial.proofs.table.costs_in.Goals as goal

pub loop-one-preserved : goal.loop-one-preserved
loop-one-preserved c =
    zip_made_taken IsFromNothing (λ d. Some (rate_of c.args.best d.at_base)) c.args.drawn.now c.loop-one.one-index _
    c.loop-one.costs.items c.push.new.self.items (Some c.to.result) c.loop-one-test.true c.loop-one.invariant
    (c.to.ensures.from, c.to.ensures.to ∙ c.cost_of.ensures.cost) c.in_ok-push.ensures.items
