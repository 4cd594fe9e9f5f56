use Rattle.std.proofs.Common.{◌-◌, length, arith, rules}
use Rattle.buck_book_postings.specs.declared.posting.Posting.TheVariants.{Cut}
use Rattle.buck_book_postings.specs.History.{IsLawful}
use Rattle.buck_book_journal.specs.Journal.{history_of}
use Rattle.wrong_book.proofs.parts.last_part_dropped.Goals as goal

pub prove-unreachable-requires : goal.prove-unreachable-requires
prove-unreachable-requires g c =
    let lawful : IsLawful (history_of c.args.instruction.now.value c.args.journal.now) = search rules in
    let follows =
    lawful.postings_follow (length c.args.journal.now.entries - 1) (Cut c.args.entry.now) c.requires.last in
    omega (arith, follows.holds.0.none_outvalues c.args.dearer.now.logs.items c.requires.admissible, c.requires.more)
