use Rattle.std.proofs.Common.{Some}
use Rattle.std.proofs.lemmas.List.{get_or_default}
use Rattle.buckfleet_trial_wishes.specs.inner.Asking.{IsRunBy}
use Rattle.buckfleet_trial.proofs.Each.{zip_taken}
use Rattle.buckfleet_trial_wishes.proofs.asking.Asking.drawn.Goals as goal

pub loop-start-preserved : goal.loop-start-preserved
loop-start-preserved c =
    zip_taken (λ start run. IsRunBy c.args.self.now c.args.instruction.now.value (Some start) run)
    c.args.starts.now c.loop-start.start-index _ c.loop-start.drawn.items c.push.new.self.items
    c.in_ok-one.one c.loop-start-test.true
    (get_or_default c.args.starts.now c.loop-start.start-index _ _ c.loop-start-test.true) c.loop-start.invariant
    c.in_ok-one.ensures.ok c.in_ok-push.ensures.items
