use Rattle.wrong_calls.proofs.Harvests.{targets_refused}
use Rattle.wrong_calls.proofs.trials.sweep_by_the_instructions_targets.Goals as goal

pub prove-unreachable-requires : goal.prove-unreachable-requires
prove-unreachable-requires c =
    targets_refused c.args.runs.now.runs.now c.args.runs.now.draws.now c.args.lengths.now c.args.files.now _ _ _ _
    c.requires c.buckfleet_sweep-right.ensures c.if-prove.true
