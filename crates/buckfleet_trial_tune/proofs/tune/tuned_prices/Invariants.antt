use Rattle.std.proofs.Common.{◌≡◌, ◌<◌, ◌≤◌, ℕ, All, length, slice_index}
use Rattle.buckfleet_trial_tune.specs.Tune.{tuned_price}
use Rattle.buckfleet_trial_tune.proofs.tune.tuned_prices.Given as goal

abbrev pub invariant-loop-class : goal.invariant-loop-class
invariant-loop-class l = record {
  one_each : length l.prices.items ≡ l.class;
  each : (at : ℕ) → at < l.class → slice_index l.prices.items at ≡ tuned_price l.parts at;
  low : All (λ p. p ≤ 10000000) l.prices.items;
}
