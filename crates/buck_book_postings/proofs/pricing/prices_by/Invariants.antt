use Rattle.buck_book_postings.proofs.Words.{◌+◌, classes_before, ArePriced, standings_of}
use Rattle.buck_book_postings.proofs.pricing.prices_by.Given as goal

abbrev pub invariant-loop-at : goal.invariant-loop-at
invariant-loop-at g l =
    ArePriced g.F.Fn l.rule (standings_of l.instruction l.running) l.prices.items (classes_before l.instruction l.at)

abbrev pub invariant-loop-inner : goal.invariant-loop-inner
invariant-loop-inner g l =
    ArePriced g.F.Fn l.rule (standings_of l.instruction l.running) l.prices.items (l.section.before + l.inner)
