use Rattle.buck_record.specs.writing.Written.{spelled}
use Rattle.buckfleet_engine_files.proofs.WrittenLemmas.{stopped, then_written}
use Rattle.buckfleet_engine_files.proofs.writing.write_line.Goals as goal

pub returns-in_err-write_numbers : goal.returns-in_err-write_numbers
returns-in_err-write_numbers g c =
    then_written _ _ _ c.args.words.now _ _ c.in_ok-write_text.ensures
    (stopped _ _ (spelled c.args.numbers.now)
    _ _ _ c.from_residual-in_err-write_numbers.ensures.1 c.in_err-write_numbers.ensures)
