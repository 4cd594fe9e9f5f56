use Rattle.buckfleet_engine_cross_check.specs.inner.Tie.{stems_in_lists}
use Rattle.buckfleet_engine_cross_check.proofs.TieAnswers.{untied}
use Rattle.buckfleet_engine_cross_check.proofs.running.text_of_ties.Goals as goal

pub returns-in_err-check_ties : goal.returns-in_err-check_ties
returns-in_err-check_ties c =
    untied (stems_in_lists c.args.tied.now.files.items)
    c.args.rule c.args.tied.now.both.instruction.value c.args.tied.now.both.journal c.in_err-check_ties.field-0.0 _
    c.from_residual.ensures.1
    (rw c.in-Ok.is at c.requires.lawful) (rw c.as_slice.ensures.value at c.in_err-check_ties.ensures.fault)
