use Rattle.std.proofs.Common.{◌∙◌, Some, ap}
use Rattle.buckfleet_trial_owned.specs.Owned.{loss_of}
use Rattle.buckfleet_trial.specs.Trial.{IsFromNothing}
use Rattle.buckfleet_trial.proofs.Each.{zip_made_taken}
use Rattle.buckfleet_trial_owned.proofs.owned.losses_in.Goals as goal

pub loop-one-preserved : goal.loop-one-preserved
loop-one-preserved c =
    zip_made_taken IsFromNothing (λ o. Some (loss_of o)) c.args.drawn.now c.loop-one.one-index c.one-item.result
    c.loop-one.losses.items c.push.new.self.items (Some c.to.result) c.loop-one-test.true c.loop-one.invariant
    (c.to.ensures.from, c.to.ensures.to ∙ c.cost_of.ensures.cost ∙ ap (λ o. loss_of o) c.one-item.is)
    c.in_ok-push.ensures.items
