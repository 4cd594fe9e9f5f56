use Rattle.std.proofs.Common.{take}
use Rattle.buckfleet_trial.specs.Lines.{AreLinesFor}
use Rattle.buckfleet_trial.proofs.trial.lines_of.Given as goal

abbrev pub invariant-loop-combination : goal.invariant-loop-combination
invariant-loop-combination g l =
    AreLinesFor l.input.instruction l.input.lists.items (take l.combination-index l.combinations) l.lines.items
