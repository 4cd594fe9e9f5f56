use Rattle.std.proofs.Common.{◌≡◌, rules}
use Rattle.wrong_trial.proofs.Journals.{without_total}
use Rattle.wrong_trial.proofs.ledgers.appraisal_without_the_line_of_all.Goals as goal

pub prove-unreachable-requires : goal.prove-unreachable-requires
prove-unreachable-requires g c =
    let same : c.run_appraise-outcome.new.out.items ≡ c.args.wrong.now = search rules in
    without_total c.args.task.now.settings _ _ _ c.args.files.own.1 _ _ _ c.run_appraise-outcome.result _
    c.run_appraise-outcome.ensures c.new-right.ensures.items c.in-Ok.is c.requires.other same
