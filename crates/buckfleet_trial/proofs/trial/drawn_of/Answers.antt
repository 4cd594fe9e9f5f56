use Rattle.buckfleet_trial.specs.Trial.{IsDrawn}
use Rattle.buckfleet_trial.proofs.Each.{zip_taken}
use Rattle.buckfleet_trial.proofs.trial.drawn_of.Goals as goal

pub loop-run-preserved : goal.loop-run-preserved
loop-run-preserved g c =
    zip_taken (λ p d. IsDrawn c.args.input.now.instruction c.args.input.now.lists.items p.combination.now p.start d)
    c.args.planned.now c.loop-run.run-index c.run-item.result c.loop-run.made.items c.push.new.self.items
    c.in_ok-drawn.drawn c.loop-run-test.true c.run-item.is c.loop-run.invariant c.in_ok-drawn.ensures.ok
    c.in_ok-push.ensures.items
