use Rattle.std.proofs.Common.{take}
use Rattle.buckfleet_trial_wishes.specs.inner.Asking.{AreTold}
use Rattle.buckfleet_trial_wishes.proofs.wishes.told_of.Given as goal

abbrev pub invariant-loop-wish : goal.invariant-loop-wish
invariant-loop-wish g l = AreTold l.asking l.whole (take l.wish-index l.wishes) l.told.items
