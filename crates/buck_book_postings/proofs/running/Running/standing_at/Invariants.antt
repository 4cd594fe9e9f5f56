use Rattle.buck_book_postings.proofs.Words.{◌≡◌, ◌≤◌, classes_before}
use Rattle.buck_book_postings.proofs.running.Running.standing_at.Given as goal

abbrev pub invariant-loop-at : goal.invariant-loop-at
invariant-loop-at l = record {
  before : l.before ≡ classes_before l.instruction l.at;
  past : l.before ≤ l.place;
}
