use Rattle.std.proofs.Common.{ℕ, ◌<◌, length, slice_index}
use Rattle.buck_value.proofs.worth.row_of.Given as goal

abbrev pub invariant-loop-row : goal.invariant-loop-row
invariant-loop-row l = record {
  within : l.row < length l.limits;
  above : (k : ℕ) → l.row < k → k < length l.limits → l.diameter < slice_index l.limits k;
}

abbrev pub decreases-loop-row : goal.decreases-loop-row
decreases-loop-row l = l.row
