use Rattle.std.proofs.Common.{rules, ◌≡◌, sym}
use Rattle.buckfleet_engine_files.proofs.Ruled.{follows_rule}
use Rattle.buckfleet_trial_sweep.proofs.cutting.cut_by_name.Goals as goal

pub returns-in_ok-journal_of-in-Ok-clause-ok : goal.returns-in_ok-journal_of-in-Ok-clause-ok
returns-in_ok-journal_of-in-Ok-clause-ok c =
    let cut = c.in-Ok.ensures in
    let journal = c.in_ok-journal_of-in-Ok.ensures in
    let is : c.in-Ok.book.history.instruction ≡ c.args.instruction.now.value = search (rules, cut.instruction) in
    rw (sym is, journal.history) (record {
      lawful = journal.lawful;
      few = journal.few;
      firsts = journal.firsts;
      cut = cut.cut;
      by_rule = follows_rule _ _ c.args.named _ (search rules) journal.lawful cut.given;
    })
