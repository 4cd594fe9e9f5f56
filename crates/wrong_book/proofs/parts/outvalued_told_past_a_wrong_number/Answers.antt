use Rattle.std.proofs.Common.{arith, rules}
use Rattle.buck_book_journal.specs.declared.replay_fault.ReplayFault.TheVariants.{Outvalued}
use Rattle.buck_book_journal.specs.Journal.{history_of}
use Rattle.buck_book_replay.specs.Replay.{IsFirstFault}
use Rattle.wrong_book.proofs.Faults.{before_wrong_number}
use Rattle.wrong_book.proofs.parts.outvalued_told_past_a_wrong_number.Goals as goal

pub prove-unreachable-requires : goal.prove-unreachable-requires
prove-unreachable-requires g c =
    let h = history_of c.args.instruction.now.value c.args.journal.now in
    let first : IsFirstFault h (Outvalued c.in-Outvalued.at) = search rules in
    omega (
      arith,
      before_wrong_number h c.in-Outvalued.at c.args.first c.args.posting.now c.requires.there c.requires.wrong first,
    )
