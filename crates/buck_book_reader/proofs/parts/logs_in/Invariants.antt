use Rattle.buck_book_reader.proofs.Words.{◌≡◌, ◌*◌, ◌++◌, drop, are_logs, logs_of}
use Rattle.buck_book_reader.proofs.parts.logs_in.Given as goal

abbrev pub invariant-loop-k : goal.invariant-loop-k
invariant-loop-k l = record {
  so_far : l.logs.items ++ logs_of (drop (3 * l.k) l.numbers) ≡ logs_of l.numbers;
  right : are_logs (drop (3 * l.k) l.numbers) ≡ are_logs l.numbers;
}
