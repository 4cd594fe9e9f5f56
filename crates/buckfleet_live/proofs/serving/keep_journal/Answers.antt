use Rattle.buckfleet_live.proofs.serving.keep_journal.Goals as goal

pub returns-in-Some : goal.returns-in-Some
returns-in-Some g c = rw c.in-Some.is (c.write_journal.new.journal, c.write_journal.ensures)
