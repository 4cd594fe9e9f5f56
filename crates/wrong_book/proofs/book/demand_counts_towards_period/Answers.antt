use Rattle.std.proofs.Common.{◌≡◌, [], ◌∷◌, None, rules}
use Rattle.buck_book_postings.specs.declared.posting.Posting.TheVariants.{Cut, Demand}
use Rattle.buck_book_postings.specs.Book.{entry_of}
use Rattle.wrong_book.proofs.Plans.{no_sheet, no_end_after_demand}
use Rattle.wrong_book.proofs.book.demand_counts_towards_period.Goals as goal

pub prove-unreachable-requires : goal.prove-unreachable-requires
prove-unreachable-requires g c =
    let h = c.prepare.new.self.history in
    let e = entry_of h 1 c.in_ok-plan.plan in
    let two : h.instruction.period ≡ 2 = search rules in
    let one : h.postings ≡ Demand c.commit_demand-demand.result ∷ [] = search rules in
    let none : c.in-Ok.ready.next ≡ None =
    no_sheet h (Cut e) c.in-Ok.ready.next (c.in-Ok.ensures.ready.to_add.next_is 1)
    (no_end_after_demand h.instruction h.postings c.commit_demand-demand.result e two one) in
    search rules
