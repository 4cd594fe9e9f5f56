use Rattle.buck_book_postings.proofs.Words.{sym, standings_of}
use Rattle.buck_book_postings.proofs.Relations.{stands_after}
use Rattle.buck_book_postings.proofs.walk.Walk.standing.Goals as goal

pub returns-clause-stands : goal.returns-clause-stands
returns-clause-stands c =
    let t = c.self.invariant.tells in
    rw (sym c.self.view_is)
    (stands_after (standings_of c.self.inside.instruction.now c.self.inside.running) _ t.targets_are t.counts_are _ _
    c.standing_at.ensures)
