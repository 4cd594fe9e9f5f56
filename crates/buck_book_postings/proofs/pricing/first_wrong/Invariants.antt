use Rattle.buck_book_postings.proofs.Words.{◌≡◌, ◌+◌, classes_before, Meets, AreBelow, standings_of}
use Rattle.buck_book_postings.proofs.pricing.first_wrong.Given as goal

abbrev pub invariant-loop-at : goal.invariant-loop-at
invariant-loop-at l = record {
  before : l.before ≡ classes_before l.instruction l.at;
  met : AreBelow Meets (standings_of l.instruction l.running) l.prices l.before;
}

abbrev pub invariant-loop-inner : goal.invariant-loop-inner
invariant-loop-inner l = AreBelow Meets (standings_of l.instruction l.running) l.prices (l.section.before + l.inner)
