use Rattle.buck_book_postings.proofs.Words.{◌≡◌, ◌*◌, ◌≤◌, take, sum}
use Rattle.buck_book_postings.proofs.targets.sum_of.Given as goal

abbrev pub invariant-loop-target : goal.invariant-loop-target
invariant-loop-target l = record {
  all : l.all ≡ sum (take l.target-index l.targets);
  low : l.all ≤ l.target-index * 4294967296;
}
