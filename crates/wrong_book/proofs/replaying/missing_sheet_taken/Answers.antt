use Rattle.std.proofs.Common.{arith, rules}
use Rattle.buck_book_postings.specs.History.{IsLawful}
use Rattle.wrong_book.proofs.Lawful.{made}
use Rattle.wrong_book.proofs.replaying.missing_sheet_taken.Goals as goal

pub prove-unreachable-requires : goal.prove-unreachable-requires
prove-unreachable-requires c =
    let i = c.args.instruction.now.value in
    let sheets = c.args.journal.now.sheets in
    let lawful : IsLawful (made i sheets c.args.journal.now.entries) = search rules in
    omega (arith, lawful.sheets_number, c.requires.less)
