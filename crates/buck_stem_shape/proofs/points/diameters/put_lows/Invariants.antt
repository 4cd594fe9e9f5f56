use Rattle.std.proofs.Common.{◌≡◌, ◌+◌, ◌<◌, ℕ, length, slice_index}
use Rattle.buck_stem_shape.specs.Stem.{least_to}
use Rattle.buck_stem_shape.proofs.points.diameters.put_lows.Given as goal

abbrev pub invariant-loop-i : goal.invariant-loop-i
invariant-loop-i l = record {
  number : length l.places ≡ length l.samples;
  low : l.low ≡ least_to l.samples l.i;
  each : (k : ℕ) → k < l.i + 1 → slice_index l.places k ≡ least_to l.samples k;
}
