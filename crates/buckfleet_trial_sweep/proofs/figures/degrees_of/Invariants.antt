use Rattle.buckfleet_trial_sweep.proofs.Words.{◌≡◌, ℕ, length, slice_get, Some, AreDegreesBy, Degrees}
use Rattle.buckfleet_trial_sweep.proofs.figures.degrees_of.Given as goal

abbrev pub invariant-loop-at : goal.invariant-loop-at
invariant-loop-at l = record {
  number : length l.degrees.items ≡ l.at;
  each : (a : ℕ) (d : Degrees) → slice_get l.degrees.items a ≡ Some d
      → AreDegreesBy l.instruction l.targets l.counts a d;
}
