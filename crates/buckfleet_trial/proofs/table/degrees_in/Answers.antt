use Rattle.buckfleet_trial.specs.Trial.{IsFromNothing}
use Rattle.buckfleet_trial.proofs.Each.{zip_made_taken}
use Rattle.buckfleet_trial.proofs.table.degrees_in.Goals as goal

pub loop-one-preserved : goal.loop-one-preserved
loop-one-preserved c =
    zip_made_taken IsFromNothing (λ d. d.least) c.args.drawn.now c.loop-one.one-index _ c.loop-one.degrees.items
    c.push.new.self.items c.from_nothing.result c.loop-one-test.true c.loop-one.invariant c.from_nothing.ensures
    c.in_ok-push.ensures.items
