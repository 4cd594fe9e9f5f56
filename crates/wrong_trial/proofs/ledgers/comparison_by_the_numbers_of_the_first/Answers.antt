use Rattle.std.proofs.Common.{◌∙◌, Some, sym}
use Rattle.wrong_trial.proofs.Journals.{compared_two}
use Rattle.wrong_trial.proofs.ledgers.comparison_by_the_numbers_of_the_first.Goals as goal

pub prove-unreachable-requires : goal.prove-unreachable-requires
prove-unreachable-requires g c =
    compared_two c.args.task.now c.args.apt.now c.args.first.now c.args.second.now (Some c.args.out.now.items)
    (Some c.run_compare-right.new.out.items) c.run_compare-right.result c.run_compare-right.ensures
    (sym c.is_err-is_refused.ensures.value ∙ c.if-prove.true)
    (λ i one other apt_is one_is other_is few lawful. c.requires.unlawful i other apt_is other_is lawful)
