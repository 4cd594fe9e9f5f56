use Rattle.std.proofs.Common.{◌≡◌}
use Rattle.bench_calls.proofs.commits.commit_period.Given as goal

abbrev pub invariant-loop-plan : goal.invariant-loop-plan
invariant-loop-plan g l = record {
  rule : l.book.rule ≡ l.fn.book.rule;
}
