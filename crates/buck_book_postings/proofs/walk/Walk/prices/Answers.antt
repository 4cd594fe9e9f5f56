use Rattle.buck_book_postings.proofs.Words.{sym, standings_of}
use Rattle.buck_book_postings.proofs.Relations.{are_answers}
use Rattle.buck_book_postings.proofs.walk.Walk.prices.Goals as goal

pub returns-clause-answers : goal.returns-clause-answers
returns-clause-answers g c =
    let t = c.self.invariant.tells in
    rw (sym c.self.view_is)
    (are_answers (standings_of c.self.inside.instruction.now c.self.inside.running) _ t.targets_are t.counts_are _ _ _
    c.in_ok-prices_by.ensures)
