use Rattle.std.proofs.Common.{arith, rules}
use Rattle.buck_book_journal.specs.declared.replay_fault.ReplayFault.TheVariants.{Numbering}
use Rattle.buck_book_journal.specs.Journal.{history_of}
use Rattle.buck_book_replay.specs.Replay.{IsFirstFault}
use Rattle.wrong_book.proofs.Faults.{number_not_later}
use Rattle.wrong_book.proofs.parts.wrong_number_told_past_an_outvalued_cut.Goals as goal

pub prove-unreachable-requires : goal.prove-unreachable-requires
prove-unreachable-requires g c =
    let h = history_of c.args.instruction.now.value c.args.journal.now in
    let first : IsFirstFault h (Numbering c.in-Numbering.at) = search rules in
    omega (
      arith,
      number_not_later h c.in-Numbering.at c.args.first c.args.entry.now c.args.dearer.now.logs.items c.requires.there
          c.requires.admissible c.requires.more first,
    )
