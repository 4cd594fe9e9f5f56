use Rattle.std.proofs.Common.{◌≡◌, List, ℕ, rules, subst}
use Rattle.buck_book_postings.specs.Targets.{IsLowSumAt}
use Rattle.wrong_trial.proofs.targets.targets_too_many_accepted.Goals as goal

pub prove-unreachable-requires : goal.prove-unreachable-requires
prove-unreachable-requires c =
    let same : c.in-Ok.right.items ≡ c.args.wrong.now = search rules in
    let low = c.in-Ok.ensures.targets.valid.low_sums in
    c.requires.many (subst (λ (ts : List ℕ). IsLowSumAt c.args.instruction.now ts 0) same
    (low 0 c.assortments-number.ensures.valid.assortments_number.0))
