use Rattle.buck_book_postings.proofs.Words.{rules}
use Rattle.buck_book_postings.proofs.Told.{walk_more}
use Rattle.buck_book_postings.proofs.walk.Walk.pass.Goals as goal

pub invariant_of-walk : goal.invariant_of-walk
invariant_of-walk c =
    walk_more _ _ _ _ _ _ c.walk.view_is c.walk.invariant c.requires.next c.requires.instruction _ _ c.in_ok-after.ensures
    (search rules)
