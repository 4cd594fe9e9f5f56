use Rattle.buck_book_postings.proofs.Words.{arith, slice_get-get_or}
use Rattle.buck_book_postings.proofs.Standings.{before_next}
use Rattle.buck_book_postings.proofs.Wanted.{low_more}
use Rattle.buck_book_postings.proofs.targets.check_targets.Goals as goal

pub loop-at-preserved : goal.loop-at-preserved
loop-at-preserved c = grind (arith, slice_get-get_or, before_next, low_more)
