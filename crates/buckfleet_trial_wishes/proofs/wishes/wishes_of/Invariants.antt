use Rattle.std.proofs.Common.{◌*◌}
use Rattle.buckfleet_trial_wishes.specs.inner.Asking.{AreBelow}
use Rattle.buckfleet_trial_wishes.proofs.wishes.wishes_of.Given as goal

abbrev pub invariant-loop-at : goal.invariant-loop-at
invariant-loop-at l = AreBelow l.asking.instruction.value l.asking.unsteered.items (l.at * 1024) l.wishes.items
