use Rattle.std.proofs.Common.{◌+◌, ◌*◌}
use Rattle.buckfleet_trial_wishes.specs.inner.Asking.{AreBelow}
use Rattle.buckfleet_trial_wishes.proofs.wishes.add_wishes.Given as goal

abbrev pub invariant-loop-class : goal.invariant-loop-class
invariant-loop-class l =
    AreBelow l.asking.instruction.value l.asking.unsteered.items (l.at * 1024 + l.class) l.wishes.items
