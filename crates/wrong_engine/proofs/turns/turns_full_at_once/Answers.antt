use Rattle.std.proofs.Common.{rules}
use Rattle.wrong_engine.proofs.Many.{few_in_file}
use Rattle.wrong_engine.proofs.turns.turns_full_at_once.Goals as goal

pub prove-unreachable-requires : goal.prove-unreachable-requires
prove-unreachable-requires c =
    few_in_file _ _ _ _ _ _ _ _ c.requires.few c.run_in_turn-outcome.ensures.run (search rules)
