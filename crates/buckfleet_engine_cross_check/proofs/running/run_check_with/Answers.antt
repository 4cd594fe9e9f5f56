use Rattle.buckfleet_engine_cross_check.proofs.TieAnswers.{not_answered}
use Rattle.buckfleet_engine_cross_check.proofs.running.run_check_with.Goals as goal

pub returns-in_err-text-clause-run : goal.returns-in_err-text-clause-run
returns-in_err-text-clause-run g c =
    not_answered _ c.args.by.now.rule _ _ _ _ c.in_err-text.field-0.0 _ c.from_residual.ensures.1 c.in_err-text.ensures.answer
