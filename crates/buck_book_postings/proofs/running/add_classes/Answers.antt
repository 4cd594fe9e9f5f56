use Rattle.buck_book_postings.proofs.Words.{rules, arith, common_steps, Log, class_place}
use Rattle.buck_book_postings.proofs.Counting.{grown_more}
use Rattle.buck_book_postings.proofs.running.add_classes.Goals as goal

pub loop-log-preserved : goal.loop-log-preserved
loop-log-preserved c =
    let none : Log = record { start = 0; length = 0; assortment = 0 } in
    rw c.add_one.ensures
    (grown_more (class_place c.args.sheet.now.instruction c.args.stem.now) _ _ _ _ _ none c.loop-log-test.true
    (search rules) (grind (arith, common_steps)) c.loop-log.invariant)
