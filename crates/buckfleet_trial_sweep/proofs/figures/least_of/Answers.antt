use Rattle.buckfleet_trial_sweep.proofs.Words.{ap, ◌∙◌, lesser}
use Rattle.buckfleet_trial_sweep.proofs.Lesser.{least_taken}
use Rattle.buckfleet_trial_sweep.proofs.figures.least_of.Goals as goal

pub loop-degree-preserved : goal.loop-degree-preserved
loop-degree-preserved c =
    least_taken c.args.degrees.now c.loop-degree.degree-index _ c.loop-degree.least c.lesser-least.result
    c.loop-degree-test.true (c.lesser-least.ensures ∙ ap (lesser c.loop-degree.least) c.widened.ensures)
    c.loop-degree.invariant
