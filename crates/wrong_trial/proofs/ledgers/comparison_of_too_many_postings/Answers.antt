use Rattle.std.proofs.Common.{◌∙◌, Some, arith, sym}
use Rattle.wrong_trial.proofs.Journals.{compared_two}
use Rattle.wrong_trial.proofs.ledgers.comparison_of_too_many_postings.Goals as goal

pub prove-unreachable-requires : goal.prove-unreachable-requires
prove-unreachable-requires g c =
    compared_two c.args.task.now c.args.apt.now c.args.first.now c.args.second.now (Some c.args.out.now.items)
    (Some c.run_compare-right.new.out.items) c.run_compare-right.result c.run_compare-right.ensures
    (sym c.is_err-is_refused.ensures.value ∙ c.if-prove.true)
    (λ i one other apt_is one_is other_is few lawful. omega (arith, few, c.requires.many one other one_is other_is))
