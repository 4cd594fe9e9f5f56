use Rattle.std.proofs.Common.{refl}
use Rattle.std.proofs.KnownBytes.{Keeps-refl}
use Rattle.buck_book_postings.specs.Pricing.{AreSheetsBy}
use Rattle.buckfleet_tasks.specs.declared.harvests.Order.TheVariants.{InTurn}
use Rattle.buckfleet_engine_files.specs.Lent.{no_writer, of_writer}
use Rattle.buckfleet_engine_files.proofs.Numbers.{own_reads}
use Rattle.buckfleet_engine.proofs.Runs.{no_texts, texts_written}
use Rattle.buckfleet_engine_input.proofs.ListLemmas.{of_files}
use Rattle.buckfleet_engine.proofs.fleet.turning.run_in_turn.Goals as goal

pub returns-in_err-turned-in-None-clause-run : goal.returns-in_err-turned-in-None-clause-run
returns-in_err-turned-in-None-clause-run g c =
    let fault = c.in_err-turned-in-None.ensures in
    rw c.in-None.is
    (no_texts _ InTurn (AreSheetsBy g.F.Fn c.args.rule) _ _ no_writer _ _ _
    (λ none. fault.seats (of_files g.R.Read.remaining c.args.stms.now none))
    c.from_residual.ensures.1 fault.refused fault.full tt)

pub returns-in_err-turned-in-Some-clause-run : goal.returns-in_err-turned-in-Some-clause-run
returns-in_err-turned-in-Some-clause-run g c =
    let fault = c.in_err-turned-in-Some.ensures in
    let kept = g.J.Write.contents c.in-Some.journal.now in
    rw c.in-Some.is
    (no_texts _ InTurn (AreSheetsBy g.F.Fn c.args.rule) _ _ (of_writer kept kept) _ _ _
    (λ none. fault.seats (of_files g.R.Read.remaining c.args.stms.now none))
    c.from_residual-in_err-turned-in-Some.ensures.1 fault.refused fault.full (Keeps-refl kept))

pub returns-in_ok-turned-in-None-clause-run : goal.returns-in_ok-turned-in-None-clause-run
returns-in_ok-turned-in-None-clause-run g c =
    let cut = c.in_ok-turned-in-None.ensures in
    rw c.in-None.is
    (texts_written _ InTurn (AreSheetsBy g.F.Fn c.args.rule) _ _ no_writer _ _ _ _ _
    (λ none. cut.seats (of_files g.R.Read.remaining c.args.stms.now none)) (rw (own_reads _ c.own.ensures) at cut.ok)
    (cut.in_turn, cut.given) refl c.write_report.ensures.written)

pub returns-in_ok-turned-in-Some-clause-run : goal.returns-in_ok-turned-in-Some-clause-run
returns-in_ok-turned-in-Some-clause-run g c =
    let cut = c.in_ok-turned-in-Some.ensures in
    let contents = g.J.Write.contents in
    rw c.in-Some.is
    (texts_written _ InTurn (AreSheetsBy g.F.Fn c.args.rule) _ _
    (of_writer (contents c.in-Some.journal.now) (contents c.write_journal_and_report.new.journal)) _ _ _ _ _
    (λ none. cut.seats (of_files g.R.Read.remaining c.args.stms.now none)) (rw (own_reads _ c.own.ensures) at cut.ok)
    (cut.in_turn, cut.given) refl c.write_journal_and_report.ensures.written)
