use Rattle.buck_book_postings.proofs.Words.{take, AreGrownBy}
use Rattle.buck_book_postings.proofs.running.add_assortments.Given as goal

abbrev pub invariant-loop-log : goal.invariant-loop-log
invariant-loop-log l = AreGrownBy l.fn.counts.items (take l.log-index l.logs) l.counts.items
