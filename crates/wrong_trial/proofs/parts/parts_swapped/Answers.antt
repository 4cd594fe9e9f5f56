use Rattle.std.proofs.Common.{rules, ◌≡◌}
use Rattle.buck_rule.specs.declared.named.NamedRule.TheVariants.{Steady, Step}
use Rattle.wrong_trial.proofs.Lines.{without_lines}
use Rattle.wrong_trial.proofs.parts.parts_swapped.Goals as goal

pub prove-unreachable-requires : goal.prove-unreachable-requires
prove-unreachable-requires g c =
    let same : c.run_sweep_in_parts-outcome.new.out.items ≡ c.args.wrong.now = search rules in
    without_lines Steady Step _ _ _ _ _ _ _ _ c.run_sweep_in_parts-outcome.ensures.run c.new-right.ensures.items
    c.in-Ok.is c.requires.other same c.requires.runs
