use Rattle.buckfleet_trial_sweep.proofs.Words.{◌*◌, take, AreLines, IsRunLine}
use Rattle.buckfleet_trial_sweep.proofs.cutting.lines_in_parts.Given as goal

abbrev pub invariant-loop-k : goal.invariant-loop-k
invariant-loop-k g l =
    AreLines (IsRunLine l.fn.input.instruction l.fn.input.lists.items) (take (l.k * l.size) l.combinations) l.text.items
