use Rattle.buck_dp.proofs.Words.{ℕ, ◌<◌, ◌≤◌, ◌⊎◌, slice_index}
use Rattle.buck_dp.proofs.pricing.Band.cut_by.Given as goal

abbrev pub invariant-loop-limit : goal.invariant-loop-limit
invariant-loop-limit l = record {
  within : (l.self.thinnest ≤ l.diameter) × (l.diameter < l.self.past);
  narrower : (l.fn.self.thinnest ≤ l.self.thinnest) × (l.self.past ≤ l.fn.self.past);
  upper : (l.assortment.upper ≤ l.self.thinnest) ⊎ (l.self.past ≤ l.assortment.upper);
  rows : (k : ℕ) → k < l.limit-index → (slice_index l.limit-items k ≤ l.self.thinnest)
      ⊎ (l.self.past ≤ slice_index l.limit-items k);
}
