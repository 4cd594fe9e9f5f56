use Rattle.std.proofs.Common.{◌≡◌, take}
use Rattle.buckfleet_trial_wishes.specs.Wishes.{greatest}
use Rattle.buckfleet_trial_wishes.proofs.moved.Asked.greatest.Given as goal

abbrev pub invariant-loop-target : goal.invariant-loop-target
invariant-loop-target l = l.greatest ≡ greatest (take l.target-index l.self.targets.now)
