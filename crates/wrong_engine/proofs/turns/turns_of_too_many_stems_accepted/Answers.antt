use Rattle.std.proofs.Common.{sym, ◌∙◌}
use Rattle.wrong_engine.proofs.Many.{too_many_in_file}
use Rattle.wrong_engine.proofs.turns.turns_of_too_many_stems_accepted.Goals as goal

pub prove-unreachable-requires : goal.prove-unreachable-requires
prove-unreachable-requires c =
    too_many_in_file _ _ _ _ _ _ _ _ _ c.requires.many c.run_in_turn-right.ensures.run
    (sym c.is_err-is_refused.ensures.value ∙ c.if-prove.true)
