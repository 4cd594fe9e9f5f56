use Rattle.buck_book_journal.specs.Journal.{history_of}
use Rattle.buckfleet_engine_files.proofs.LastSheet.{number_given}
use Rattle.buckfleet_engine.proofs.run.reporting.last_prices.Goals as goal

pub returns-clause-number : goal.returns-clause-number
returns-clause-number c =
    number_given (history_of c.args.instruction.now c.args.journal.now)
    c.assortments-valid.ensures.valid c.requires.lawful c.prices_in.result.now c.prices_in.ensures
