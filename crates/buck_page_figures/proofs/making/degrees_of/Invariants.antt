use Rattle.std.proofs.Common.{◌≡◌, ℕ, length}
use Rattle.std.specs.Prelude.{slice_get, Some}
use Rattle.buck_page_figures.specs.Degrees.{AreDegreesBy}
use Rattle.buck_page_figures.specs.declared.degrees.Degrees.{Degrees}
use Rattle.buck_page_figures.proofs.making.degrees_of.Given as goal

abbrev pub invariant-loop-at : goal.invariant-loop-at
invariant-loop-at l = record {
  number : length l.degrees.items ≡ l.at;
  each : (a : ℕ) (d : Degrees) → slice_get l.degrees.items a ≡ Some d
      → AreDegreesBy l.instruction l.targets l.counts a d;
}
