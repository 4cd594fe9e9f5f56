use Rattle.buck_book_postings.proofs.Words.{arith, take_all}
use Rattle.buck_book_postings.proofs.Counting.{none_counted, none_low}
use Rattle.buck_book_postings.proofs.Wanted.{opening_valid}
use Rattle.buck_book_postings.proofs.Told.{tells_opening}
use Rattle.buck_book_postings.proofs.running.Running.opening.Goals as goal

pub returns : goal.returns
returns c =
    let classes = c.in_ok-by_class.ensures.items_if_clones_equal (λ y e. e) in
    let assortments = c.in_ok-by_assortment.ensures.items_if_clones_equal (λ y e. e) in
    grind (arith, take_all, tells_opening, opening_valid, none_counted, none_low)
