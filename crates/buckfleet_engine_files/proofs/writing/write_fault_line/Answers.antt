use Rattle.buckfleet_engine_files.proofs.writing.write_fault_line.Goals as goal

pub returns-in-Read : goal.returns-in-Read
returns-in-Read g c = rw (c.in-Read.is, ← c.from.ensures) c.write_line.ensures

pub returns-in-Write : goal.returns-in-Write
returns-in-Write g c = rw c.in-Write.is c.write_text.ensures

pub returns-in-Check : goal.returns-in-Check
returns-in-Check g c = rw c.in-Check.is c.write_check_line.ensures
