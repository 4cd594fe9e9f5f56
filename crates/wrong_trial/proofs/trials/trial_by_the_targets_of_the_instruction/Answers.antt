use Rattle.std.proofs.Common.{◌≡◌, rules}
use Rattle.buck_rule.specs.declared.named.NamedRule.TheVariants.{Step}
use Rattle.wrong_trial.proofs.Tables.{without_targets}
use Rattle.wrong_trial.proofs.trials.trial_by_the_targets_of_the_instruction.Goals as goal

pub prove-unreachable-requires : goal.prove-unreachable-requires
prove-unreachable-requires g c =
    let same : c.run_trial_in_parts-outcome.new.out.items ≡ c.args.wrong.now = search rules in
    let files = c.in-Some.ensures in
    let run = rw (files.apt, files.stms, files.targets) at c.run_trial_in_parts-outcome.ensures in
    without_targets Step _ _ _ _ _ _ _ _ _ _ run c.new-right.ensures.items c.in-Ok.is c.requires.runs c.requires.other
    same
