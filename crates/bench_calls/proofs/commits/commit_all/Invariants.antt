use Rattle.std.proofs.Common.{◌≡◌}
use Rattle.bench_calls.proofs.commits.commit_all.Given as goal

abbrev pub invariant-loop : goal.invariant-loop
invariant-loop g l = record {
  rule : l.book.rule ≡ l.fn.book.rule;
}
