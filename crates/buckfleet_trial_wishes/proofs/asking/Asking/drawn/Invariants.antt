use Rattle.std.proofs.Common.{take}
use Rattle.buckfleet_trial_wishes.specs.inner.Asking.{AreDrawnBy}
use Rattle.buckfleet_trial_wishes.proofs.asking.Asking.drawn.Given as goal

abbrev pub invariant-loop-start : goal.invariant-loop-start
invariant-loop-start l = AreDrawnBy l.self l.instruction.value (take l.start-index l.starts) l.drawn.items
