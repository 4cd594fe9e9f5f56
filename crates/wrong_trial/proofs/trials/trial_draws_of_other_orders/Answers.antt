use Rattle.std.proofs.Common.{◌≡◌, List, Some, ap, rules}
use Rattle.std.specs.Prelude.{slice_get}
use Rattle.buck_rule.specs.declared.named.NamedRule.TheVariants.{Step}
use Rattle.buckfleet_tasks.specs.declared.combination.Combination.{Combination}
use Rattle.wrong_trial.specs.Texts.{own_run}
use Rattle.wrong_trial.proofs.Tables.{without_draws}
use Rattle.wrong_trial.proofs.trials.trial_draws_of_other_orders.Goals as goal

pub prove-unreachable-requires : goal.prove-unreachable-requires
prove-unreachable-requires g c =
    let same : c.run_trial_in_parts-outcome.new.out.items ≡ c.args.wrong.now = search rules in
    let there : slice_get c.args.task.now.combinations.items 0 ≡ Some (own_run Step) =
    ap (λ (l : List Combination). slice_get l 0) c.requires.runs in
    without_draws _ _ _ _ _ _ _ _ _ _ 0 (own_run Step) c.run_trial_in_parts-outcome.ensures c.new-right.ensures.items
    c.in-Ok.is there c.requires.other same
