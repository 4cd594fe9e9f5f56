use Rattle.std.proofs.Common.{ℕ, ◌≡◌, ◌+◌, ◌≤◌, ◌<◌, length, take, slice_index}
use Rattle.std.specs.List.{flat_map}
use Rattle.buck_value.specs.Sheet.{IsPriceAt, base_prices}
use Rattle.buck_value.proofs.sheet.first_outside.Given as goal

abbrev pub invariant-loop-assortment : goal.invariant-loop-assortment
invariant-loop-assortment l = record {
  place : l.at ≡ length (flat_map (λ a. a.prices) (take l.assortment-index l.assortment-items));
  inside : (k : ℕ) → k < l.at → IsPriceAt l.instruction l.prices k;
}

abbrev pub invariant-loop-k : goal.invariant-loop-k
invariant-loop-k l = record {
  room : l.at + length l.bases ≤ length l.prices;
  there : (j : ℕ) → j < length l.bases → slice_index (base_prices l.instruction) (l.at + j) ≡ slice_index l.bases j;
  inside : (j : ℕ) → j < l.at + l.k → IsPriceAt l.instruction l.prices j;
}
