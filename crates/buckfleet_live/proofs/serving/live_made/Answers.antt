use Rattle.buckfleet_live.proofs.Words.{rules, ◌≡◌, ◌∙◌, [], inl, inr, refl, ap, HistoryParts, AnswersLive, KeepsJournal}
use Rattle.buck_book_postings.proofs.Given.{none_given}
use Rattle.buckfleet_engine_files.proofs.Ruled.{follows_rule}
use Rattle.buckfleet_engine_files.proofs.Made.{made_so}
use Rattle.buckfleet_live.proofs.ServedLemmas.{unopened}
use Rattle.buckfleet_live.proofs.serving.live_made.Goals as goal

pub returns-in_err-live : goal.returns-in_err-live
returns-in_err-live g c apt says =
    unopened g.J.Write.contents c.args.journal c.args.task.now apt (g.R.Read.remaining c.args.input.now) _
    (g.W.Write.contents c.args.out.now) c.in_err-live.field-0.0 _ c.from_residual.ensures.1
    (inr (inl c.in_err-live.ensures.refused)) refl

pub returns : goal.returns
returns g c apt says =
    let live = c.in_ok-live.live in
    let opened = c.in_ok-live.ensures in
    let none : live.history.postings ≡ [] = ap (λ (h : HistoryParts). h.postings) opened.history in
    let after = c.run-ran.new.self in
    let run = c.run-ran.ensures in
    let input = g.R.Read.remaining c.args.input.now in
    let old = g.W.Write.contents c.args.out.now in
    let new = g.W.Write.contents c.run-ran.new.out in
    made_so g.J.Write.contents c.args.journal (λ o. KeepsJournal o after.history c.keep_journal-kept.result)
    (λ o. AnswersLive c.args.task.now apt input _ o old new _)
    (λ o kept. inr (record {
      own = c.args.own;
      apt_says = says;
      history = after.history;
      lawful = run.kept.lawful;
      by_rule = follows_rule _ _ c.args.task.now.rule after.history (search rules) run.kept.lawful
          (rw (run.rule ∙ opened.rule) at run.given (none_given _ live.rule live.history none));
      ran = c.run-ran.result;
      kept = c.keep_journal-kept.result;
      run = (rw (opened.history, c.with-instruction.ensures) at run.run);
      journal = kept;
      outcome_is = c.and.ensures;
    })) c.keep_journal-kept.ensures
