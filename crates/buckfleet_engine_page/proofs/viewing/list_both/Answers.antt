use Rattle.std.proofs.Common.{◌≢◌, IfErr, Result, subst}
use Rattle.buck_book_journal.specs.declared.replay_fault.ReplayFault.{ReplayFault}
use Rattle.buck_book_journal.specs.declared.replay_fault.ReplayFault.TheVariants.{Memory}
use Rattle.buck_book_replay.specs.Replay.{IsFirstFault}
use Rattle.buck_book_journal.specs.Journal.{history_of}
use Rattle.buckfleet_engine_page.proofs.Pages.{nothing_left}
use Rattle.buckfleet_engine_page.proofs.viewing.list_both.Goals as goal

pub returns-in-Err-clause-shown : goal.returns-in-Err-clause-shown
returns-in-Err-clause-shown g c =
    let h = history_of c.args.both.now.instruction.value c.args.both.now.journal in
    nothing_left (Unit {0}) h (g.W.Write.contents c.args.writer.now) c.unlawful.result
    (c.unlawful.ensures h
    (subst (λ (r : Result (Unit {0}) ReplayFault). IfErr r (λ why. why ≢ Memory → IsFirstFault h why))
    c.in-Err.is c.requires.refused))
