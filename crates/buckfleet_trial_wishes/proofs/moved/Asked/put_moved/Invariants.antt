use Rattle.std.proofs.Common.{◌≡◌, ◌++◌, take}
use Rattle.buckfleet_trial_wishes.specs.Wishes.{moved_part}
use Rattle.buckfleet_trial_wishes.proofs.moved.Asked.put_moved.Given as goal

abbrev pub invariant-loop-at : goal.invariant-loop-at
invariant-loop-at l =
    l.out.items ≡ l.initial.out.items ++ take l.at (moved_part l.self.targets.now l.self.unsteered.now l.class)
