use Rattle.buckfleet_engine.proofs.fleet.writing.write_made.Goals as goal

pub returns-in-Some : goal.returns-in-Some
returns-in-Some g c = rw c.in-Some.is (c.write_journal_and_report.new.journal, c.write_journal_and_report.ensures.written)
