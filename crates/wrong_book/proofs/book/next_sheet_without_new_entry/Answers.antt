use Rattle.std.proofs.Common.{◌≡◌, slice_index, Some, IfSome, subst, rules}
use Rattle.std.specs.Fn.{FnReturnsAt}
use Rattle.buck_apt_instruction.specs.Instruction.{index_of}
use Rattle.buck_book_postings.specs.History.{standing_of}
use Rattle.buck_book_postings.specs.Pricing.{AreAnswersWith}
use Rattle.buck_book_postings.specs.Book.{postings_with}
use Rattle.wrong_book.proofs.book.next_sheet_without_new_entry.Goals as goal

pub prove-unreachable-requires : goal.prove-unreachable-requires
prove-unreachable-requires g c =
    let h = c.args.book.now.history in
    let sheet = c.in-Some.sheet.now.value in
    let next : c.in_ok-ready.ready.next ≡ Some sheet = search rules in
    let given : AreAnswersWith g.F.Fn c.args.book.now.rule h c.args.plan.now sheet.prices =
    subst (λ n. IfSome n (λ s. AreAnswersWith g.F.Fn c.args.book.now.rule h c.args.plan.now s.prices))
    next c.in_ok-ready.ensures.given in
    let same : slice_index sheet.prices (index_of h.instruction c.args.class) ≡ c.args.wrong = search rules in
    c.requires.wrong c.requires.class (subst (λ price. FnReturnsAt g.F.Fn c.args.book.now.rule
    (standing_of h.instruction c.requires.class.assortment c.args.class (postings_with h 1 c.args.plan.now)) price) same
    (given 1 c.args.class c.requires.class))
