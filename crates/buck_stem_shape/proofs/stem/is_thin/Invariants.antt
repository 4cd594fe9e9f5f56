use Rattle.std.proofs.Common.{ℕ, ◌↔◌, ◌<◌, ◌≤◌, get_or}
use Rattle.buck_stem_shape.proofs.stem.is_thin.Given as goal

abbrev pub invariant-loop-sample : goal.invariant-loop-sample
invariant-loop-sample l = (l.most ≤ 1500) ↔ ((k d : ℕ) → k < l.sample-index → get_or l.samples k d ≤ 1500)
