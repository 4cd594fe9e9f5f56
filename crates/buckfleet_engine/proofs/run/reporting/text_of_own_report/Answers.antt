use Rattle.buckfleet_engine_files.proofs.Numbers.{own_reads}
use Rattle.buckfleet_engine.proofs.run.reporting.text_of_own_report.Goals as goal

pub returns-clause-answer : goal.returns-clause-answer
returns-clause-answer g c = rw (own_reads _ c.own.ensures) at c.text_of_report.ensures.answer
