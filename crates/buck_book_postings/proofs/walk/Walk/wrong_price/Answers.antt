use Rattle.buck_book_postings.proofs.Words.{sym, IfSome_then, standings_of}
use Rattle.buck_book_postings.proofs.Relations.{none_wrong, is_wrong}
use Rattle.buck_book_postings.proofs.walk.Walk.wrong_price.Goals as goal

pub returns-clause-found : goal.returns-clause-found
returns-clause-found c =
    let t = c.self.invariant.tells in
    rw (sym c.self.view_is)
    (IfSome_then c.first_wrong.result c.first_wrong.ensures.found
    (is_wrong (standings_of c.self.inside.instruction.now c.self.inside.running) _ t.targets_are t.counts_are _))

pub returns-clause-none : goal.returns-clause-none
returns-clause-none c =
    let t = c.self.invariant.tells in
    rw (sym c.self.view_is)
    (none_wrong (standings_of c.self.inside.instruction.now c.self.inside.running) _ t.targets_are t.counts_are _
    c.first_wrong.result (rw (sym c.self.view_is) at c.requires) c.first_wrong.ensures.none)
