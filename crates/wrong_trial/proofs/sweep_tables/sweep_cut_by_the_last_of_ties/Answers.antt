use Rattle.std.proofs.Common.{rules, ◌≡◌}
use Rattle.buck_rule.specs.declared.named.NamedRule.TheVariants.{Step}
use Rattle.wrong_trial.proofs.Lines.{without_line}
use Rattle.wrong_trial.proofs.sweep_tables.sweep_cut_by_the_last_of_ties.Goals as goal

pub prove-unreachable-requires : goal.prove-unreachable-requires
prove-unreachable-requires c =
    let same : c.run_sweep-outcome.new.out.items ≡ c.args.wrong.now = search rules in
    without_line Step _ _ _ _ _ _ _ _ c.run_sweep-outcome.ensures.run c.new-right.ensures.items c.in-Ok.is
    (λ line one. c.requires.other one.history line one.harvest.firsts one.is_line) same (search rules)
