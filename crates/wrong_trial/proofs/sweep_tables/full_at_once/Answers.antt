use Rattle.std.proofs.Common.{rules, ◌≡◌}
use Rattle.wrong_trial.proofs.Lines.{not_full}
use Rattle.wrong_trial.proofs.sweep_tables.full_at_once.Goals as goal

pub prove-unreachable-requires : goal.prove-unreachable-requires
prove-unreachable-requires c =
    not_full _ _ _ _ _ _ c.requires.few c.run_sweep-outcome.ensures.run (search rules)
