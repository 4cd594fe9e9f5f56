use Rattle.std.proofs.lemmas.List.{get_or_default}
use Rattle.buckfleet_trial.proofs.Lights.{least_taken}
use Rattle.buckfleet_trial.proofs.light.least_of.Goals as goal

pub loop-degree-preserved : goal.loop-degree-preserved
loop-degree-preserved c =
    least_taken c.args.degrees.now c.loop-degree.degree-index _ c.loop-degree.least c.lesser-least.result
    c.loop-degree-test.true
    (get_or_default c.args.degrees.now c.loop-degree.degree-index _ _ c.loop-degree-test.true) c.lesser-least.ensures
    c.loop-degree.invariant
