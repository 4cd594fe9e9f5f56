use Rattle.std.proofs.Common.{inr, refl}
use Rattle.buck_book_journal.specs.Journal.{history_of}
use Rattle.buckfleet_engine_cross_check.proofs.running.check_ties.Goals as goal

pub returns-in-Some-2-clause-fault : goal.returns-in-Some-2-clause-fault
returns-in-Some-2-clause-fault c =
    let h = history_of c.args.instruction.now.value c.args.journal.now in
    inr (c.in-Some-2.fault, refl, inr (c.in-None.ensures.none h refl, rw c.in-Some-2.is at c.in_ok-fault.ensures.found))

pub returns-in-None-2-clause-tied : goal.returns-in-None-2-clause-tied
returns-in-None-2-clause-tied c =
    let h = history_of c.args.instruction.now.value c.args.journal.now in
    record { stems = c.in-None.ensures.none h refl; prices = rw c.in-None-2.is at c.in_ok-fault.ensures.none }
