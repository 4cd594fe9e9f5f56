use Rattle.buck_book_reader.proofs.Words.{◌≡◌, ◌≤◌, drop, length, after_front, postings_from}
use Rattle.buck_book_reader.proofs.postings.postings_in.Given as goal

abbrev pub invariant-loop-k : goal.invariant-loop-k
invariant-loop-k l = record {
  read : after_front l.postings.items (postings_from l.k (length l.postings.items) (drop l.k l.items))
      ≡ postings_from 0 0 l.items;
  few : length l.postings.items ≤ 1000000;
}
