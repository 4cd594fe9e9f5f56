use Rattle.std.proofs.Common.{arith, rules}
use Rattle.buck_book_journal.specs.declared.replay_fault.ReplayFault.TheVariants.{Outvalued}
use Rattle.buck_book_journal.specs.Journal.{history_of}
use Rattle.buck_book_replay.specs.Replay.{IsFirstFault}
use Rattle.wrong_book.proofs.Faults.{not_later}
use Rattle.wrong_book.proofs.parts.later_part_told_first.Goals as goal

pub prove-unreachable-requires : goal.prove-unreachable-requires
prove-unreachable-requires g c =
    let h = history_of c.args.instruction.now.value c.args.journal.now in
    let first : IsFirstFault h (Outvalued c.in-Outvalued.at) = search rules in
    omega (
      arith,
      not_later h c.in-Outvalued.at c.args.first c.args.entry.now c.args.dearer.now.logs.items c.requires.there
          c.requires.admissible c.requires.more first,
    )
