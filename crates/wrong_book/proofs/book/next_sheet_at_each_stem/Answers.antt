use Rattle.std.proofs.Common.{◌≡◌, None, arith, rules}
use Rattle.buck_book_postings.specs.declared.posting.Posting.TheVariants.{Cut}
use Rattle.buck_book_postings.specs.History.{IsEnd}
use Rattle.buck_book_postings.specs.Book.{entry_of}
use Rattle.wrong_book.proofs.Plans.{no_sheet}
use Rattle.wrong_book.proofs.book.next_sheet_at_each_stem.Goals as goal

pub prove-unreachable-requires : goal.prove-unreachable-requires
prove-unreachable-requires g c =
    let h = c.prepare.new.self.history in
    let x = Cut (entry_of h 1 c.args.plan.now) in
    let no_end : IsEnd h.instruction h.postings x → ⊥ = λ e. grind arith in
    let none : c.in_ok-ready.ready.next ≡ None =
    no_sheet h x c.in_ok-ready.ready.next (c.in_ok-ready.ensures.ready.to_add.next_is 1) no_end in
    search rules
