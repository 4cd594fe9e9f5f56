use Rattle.std.proofs.Common.{◌≡◌, None, arith, rules}
use Rattle.buck_book_postings.specs.declared.posting.Posting.TheVariants.{Cut}
use Rattle.buck_book_postings.specs.History.{IsEnd}
use Rattle.buck_book_postings.specs.Book.{entry_of}
use Rattle.wrong_book.proofs.Plans.{a_sheet}
use Rattle.wrong_book.proofs.book.no_next_sheet.Goals as goal

pub prove-unreachable-requires : goal.prove-unreachable-requires
prove-unreachable-requires g c =
    let h = c.prepare.new.self.history in
    let x = Cut (entry_of h 1 c.args.plan.now) in
    let end : IsEnd h.instruction h.postings x = grind arith in
    let none : c.in_ok-ready.ready.next ≡ None = search rules in
    a_sheet h x c.in_ok-ready.ready.next (c.in_ok-ready.ensures.ready.to_add.next_is 1) end none
