use Rattle.buckfleet_trial.specs.Parts.{AreJoined}
use Rattle.buckfleet_trial.proofs.parts.joined.Given as goal

abbrev pub invariant-loop-part : goal.invariant-loop-part
invariant-loop-part g l = AreJoined l.yielded l.all.items
