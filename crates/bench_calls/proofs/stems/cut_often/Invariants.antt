use Rattle.std.proofs.Common.{◌≡◌}
use Rattle.bench_calls.proofs.stems.cut_often.Given as goal

abbrev pub invariant-loop : goal.invariant-loop
invariant-loop g l = record {
  rule : l.book.rule ≡ l.fn.book.rule;
}

abbrev pub invariant-loop-stem : goal.invariant-loop-stem
invariant-loop-stem g l = record {
  rule : l.book.rule ≡ l.fn.book.rule;
}
