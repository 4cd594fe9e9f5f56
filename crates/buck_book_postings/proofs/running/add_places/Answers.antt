use Rattle.buck_book_postings.proofs.Words.{refl, arith, common_steps}
use Rattle.buck_book_postings.proofs.Counting.{grown_more}
use Rattle.buck_book_postings.proofs.running.add_places.Goals as goal

pub loop-place-preserved : goal.loop-place-preserved
loop-place-preserved c =
    rw c.add_one.ensures
    (grown_more (λ p. p) _ _ _ _ _ 0 c.loop-place-test.true refl (grind (arith, common_steps)) c.loop-place.invariant)
