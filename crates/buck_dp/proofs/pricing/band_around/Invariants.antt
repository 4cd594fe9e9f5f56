use Rattle.buck_dp.proofs.Words.{◌≡◌, ℕ, ◌<◌, ◌≤◌, slice_get, Some, AssortmentParts, IsBand}
use Rattle.buck_dp.proofs.pricing.band_around.Given as goal

abbrev pub invariant-loop-assortment : goal.invariant-loop-assortment
invariant-loop-assortment l = record {
  within : (l.band.thinnest ≤ l.diameter) × (l.diameter < l.band.past);
  high : l.band.past ≤ 1504;
  before : (a : ℕ) (x : AssortmentParts) → a < l.assortment-index → slice_get l.instruction.assortments a ≡ Some x
      → IsBand x l.band.thinnest l.band.past;
}
