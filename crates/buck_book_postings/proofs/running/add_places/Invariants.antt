use Rattle.buck_book_postings.proofs.Words.{take, AreGrownAt}
use Rattle.buck_book_postings.proofs.running.add_places.Given as goal

abbrev pub invariant-loop-place : goal.invariant-loop-place
invariant-loop-place l = AreGrownAt (λ p. p) l.fn.counts.items (take l.place-index l.places) l.counts.items
