use Rattle.buck_record.specs.Reading.{listed}
use Rattle.buck_c_calls.proofs.Ran.{told}
use Rattle.buck_c_calls.proofs.trials.buckfleet_tune.Goals as goal

pub returns : goal.returns
returns c =
    told _ _ c.args.lengths.now c.args.files.now (listed c.tuned-answer.result) _ _ _ _ c.tuned-answer.ensures
    c.put_answer.ensures
