use Rattle.buckfleet_trial_sweep.proofs.Words.{take, AreLines, IsRunLine}
use Rattle.buckfleet_trial_sweep.proofs.cutting.lines_of.Given as goal

abbrev pub invariant-loop-combination : goal.invariant-loop-combination
invariant-loop-combination l =
    AreLines (IsRunLine l.input.instruction l.input.lists.items) (take l.combination-index l.combinations) l.text.items
