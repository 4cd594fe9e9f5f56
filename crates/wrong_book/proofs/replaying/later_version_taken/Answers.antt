use Rattle.std.proofs.Common.{[], arith, rules}
use Rattle.buck_book_postings.specs.declared.posting.Posting.TheVariants.{Cut}
use Rattle.buck_book_postings.specs.History.{IsLawful}
use Rattle.wrong_book.proofs.Lawful.{made, told, first_follows}
use Rattle.wrong_book.proofs.replaying.later_version_taken.Goals as goal

pub prove-unreachable-requires : goal.prove-unreachable-requires
prove-unreachable-requires c =
    let i = c.args.instruction.now.value in
    let sheets = c.args.journal.now.sheets in
    let lawful : IsLawful (made i sheets c.args.journal.now.entries) = search rules in
    let follows = first_follows i sheets (Cut c.args.entry.now) [] (told i sheets _ _ c.requires.only lawful) in
    omega (arith, follows.version_in_force, c.requires.version)
