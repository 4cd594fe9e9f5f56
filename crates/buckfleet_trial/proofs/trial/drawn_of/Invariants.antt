use Rattle.std.proofs.Common.{take}
use Rattle.buckfleet_trial.specs.inner.Lines.{AreRun}
use Rattle.buckfleet_trial.proofs.trial.drawn_of.Given as goal

abbrev pub invariant-loop-run : goal.invariant-loop-run
invariant-loop-run g l = AreRun l.input.instruction l.input.lists.items (take l.run-index l.planned) l.made.items
