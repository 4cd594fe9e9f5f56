use Rattle.std.proofs.Common.{◌∙◌, Some, sym}
use Rattle.wrong_trial.proofs.Journals.{not_appraised}
use Rattle.wrong_trial.proofs.ledgers.appraisal_of_an_unlawful_journal.Goals as goal

pub prove-unreachable-requires : goal.prove-unreachable-requires
prove-unreachable-requires g c =
    let files = c.in-Some.ensures in
    let run = rw (files.apt, files.journals) at c.run_appraise-right.ensures in
    let own = c.in-Some.files.own in
    not_appraised c.args.task.now.settings c.args.apt.now c.args.journal.now (Some own.0.now, own.1)
    (Some c.args.out.now.items) (Some c.run_appraise-right.new.out.items) c.run_appraise-right.result run
    (sym c.is_err-is_refused.ensures.value ∙ c.if-prove.true) c.requires.unlawful
