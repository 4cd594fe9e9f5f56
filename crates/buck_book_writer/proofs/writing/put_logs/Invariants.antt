use Rattle.buck_book_writer.proofs.Words.{◌≡◌, ◌++◌, take, spelled, log_numbers}
use Rattle.buck_book_writer.proofs.writing.put_logs.Given as goal

abbrev pub invariant-loop-log : goal.invariant-loop-log
invariant-loop-log l = l.out.items ≡ l.initial.out.items ++ spelled (log_numbers (take l.log-index l.logs))
