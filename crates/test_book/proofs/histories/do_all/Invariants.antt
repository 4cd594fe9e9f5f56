use Rattle.std.proofs.Common.{◌≡◌}
use Rattle.test_book.proofs.histories.do_all.Given as goal

abbrev pub invariant-loop-what : goal.invariant-loop-what
invariant-loop-what g l = record {
  rule : l.book.rule ≡ l.fn.book.rule;
}
