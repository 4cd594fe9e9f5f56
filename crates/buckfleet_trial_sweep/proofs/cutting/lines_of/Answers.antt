use Rattle.buckfleet_trial_sweep.proofs.Words.{◌++◌, ◌∙◌, ap, IsRunLine}
use Rattle.buckfleet_trial_sweep.proofs.Tables.{lines_taken}
use Rattle.buckfleet_trial_sweep.proofs.cutting.lines_of.Goals as goal

pub loop-combination-preserved : goal.loop-combination-preserved
loop-combination-preserved c =
    lines_taken (IsRunLine c.args.input.now.instruction c.args.input.now.lists.items)
    c.args.combinations.now c.loop-combination.combination-index c.combination-item.result
    c.loop-combination.text.items c.in_ok-line.line.items c.extend_from_slice.new.self.items
    c.loop-combination-test.true c.combination-item.is c.loop-combination.invariant c.in_ok-line.ensures.ok
    (c.in_ok-extend_from_slice.ensures.items ∙ ap (λ l. c.loop-combination.text.items ++ l) c.as_slice.ensures.value)
