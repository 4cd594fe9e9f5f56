use Rattle.buck_book_postings.proofs.Words.{take, AreGrownAt, class_place}
use Rattle.buck_book_postings.proofs.running.add_classes.Given as goal

abbrev pub invariant-loop-log : goal.invariant-loop-log
invariant-loop-log l =
    AreGrownAt (class_place l.sheet.instruction l.stem) l.fn.counts.items (take l.log-index l.logs) l.counts.items
