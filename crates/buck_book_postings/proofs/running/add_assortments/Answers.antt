use Rattle.buck_book_postings.proofs.Words.{refl, arith, common_steps, Log}
use Rattle.buck_book_postings.proofs.Counting.{grown_more}
use Rattle.buck_book_postings.proofs.running.add_assortments.Goals as goal

pub loop-log-preserved : goal.loop-log-preserved
loop-log-preserved c =
    let none : Log = record { start = 0; length = 0; assortment = 0 } in
    rw c.add_one.ensures
    (grown_more (λ g. g.assortment) _ _ _ _ _ none c.loop-log-test.true refl (grind (arith, common_steps))
    c.loop-log.invariant)
