use Rattle.std.proofs.Common.{rules}
use Rattle.buck_book_postings.specs.History.{IsLawful}
use Rattle.wrong_book.proofs.Lawful.{made, told, sheet_after}
use Rattle.wrong_book.proofs.replaying.last_sheet_not_looked_at.Goals as goal

pub prove-unreachable-requires : goal.prove-unreachable-requires
prove-unreachable-requires c =
    let i = c.args.instruction.now.value in
    let sheets = c.args.journal.now.sheets in
    let lawful : IsLawful (made i sheets c.args.journal.now.entries) = search rules in
    c.requires.against (sheet_after i sheets c.args.demand.now (told i sheets _ _ c.requires.only lawful))
