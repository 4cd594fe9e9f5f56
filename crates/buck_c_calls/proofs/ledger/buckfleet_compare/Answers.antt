use Rattle.buck_record.specs.Reading.{listed}
use Rattle.buck_c_calls.proofs.Ran.{told}
use Rattle.buck_c_calls.proofs.ledger.buckfleet_compare.Goals as goal

pub returns : goal.returns
returns c =
    told _ _ c.args.lengths.now c.args.files.now (listed c.compared-answer.result) _ _ _ _ c.compared-answer.ensures
    c.put_answer.ensures
