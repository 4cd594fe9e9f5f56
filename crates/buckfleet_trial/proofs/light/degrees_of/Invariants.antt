use Rattle.std.proofs.Common.{◌≡◌, ℕ, length}
use Rattle.std.specs.Prelude.{slice_get, Option, Some}
use Rattle.buck_book_postings.specs.Degree.{IsDegreeBy}
use Rattle.buckfleet_trial.proofs.light.degrees_of.Given as goal

abbrev pub invariant-loop-at : goal.invariant-loop-at
invariant-loop-at l = record {
  number : length l.degrees.items ≡ l.at;
  each : (a : ℕ) (d : Option ℕ) → slice_get l.degrees.items a ≡ Some d
      → IsDegreeBy l.instruction l.targets l.counts a d;
}
