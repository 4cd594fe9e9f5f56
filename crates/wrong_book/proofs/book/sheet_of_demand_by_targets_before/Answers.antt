use Rattle.std.proofs.Common.{◌≡◌, slice_index, subst, rules}
use Rattle.std.specs.Fn.{FnReturnsAt}
use Rattle.buck_apt_instruction.specs.Instruction.{index_of}
use Rattle.buck_book_postings.specs.History.{standing_of}
use Rattle.buck_book_postings.specs.Book.{postings_with_demand}
use Rattle.wrong_book.proofs.book.sheet_of_demand_by_targets_before.Goals as goal

pub prove-unreachable-requires : goal.prove-unreachable-requires
prove-unreachable-requires g c =
    let h = c.args.book.now.history in
    let same : slice_index c.in_ok-ready.ready.next.prices (index_of h.instruction c.args.class) ≡ c.args.wrong =
    search rules in
    let answer = c.in_ok-ready.ensures.given 1 c.args.class c.requires.class in
    c.requires.wrong c.requires.class (subst (λ price. FnReturnsAt g.F.Fn c.args.book.now.rule
    (standing_of h.instruction c.requires.class.assortment c.args.class
    (postings_with_demand h 1 c.args.targets.now.value.items)) price) same answer)
