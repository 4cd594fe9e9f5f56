use Rattle.buck_book_postings.proofs.Words.{◌≡◌, ℕ, ◌<◌, classes_before, IsLowSumAt}
use Rattle.buck_book_postings.proofs.targets.check_targets.Given as goal

abbrev pub invariant-loop-at : goal.invariant-loop-at
invariant-loop-at l = record {
  first : l.first ≡ classes_before l.instruction l.at;
  low : (k : ℕ) → k < l.at → IsLowSumAt l.instruction l.targets k;
}
