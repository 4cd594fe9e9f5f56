use Rattle.buckfleet_trial_sweep.specs.Runs.{IsRunLine}
use Rattle.buckfleet_trial.proofs.Each.{zip_taken}
use Rattle.buckfleet_trial.proofs.trial.lines_of.Goals as goal

pub loop-combination-preserved : goal.loop-combination-preserved
loop-combination-preserved g c =
    zip_taken (λ x line. IsRunLine c.args.input.now.instruction c.args.input.now.lists.items x line.items)
    c.args.combinations.now c.loop-combination.combination-index c.combination-item.result
    c.loop-combination.lines.items c.push.new.self.items c.in_ok-line.line c.loop-combination-test.true
    c.combination-item.is c.loop-combination.invariant c.in_ok-line.ensures.ok c.in_ok-push.ensures.items
