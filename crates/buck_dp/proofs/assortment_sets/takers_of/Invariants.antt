use Rattle.buck_dp.proofs.Words.{◌≡◌, ℕ, ◌<◌, ◌≤◌, ◌↔◌, slice_get, Some, bit_at, AssortmentParts}
use Rattle.buck_value.specs.Wood.{TakesWood}
use Rattle.buck_dp.proofs.assortment_sets.takers_of.Given as goal

abbrev pub invariant-loop-place : goal.invariant-loop-place
invariant-loop-place l = record {
  right : (a : ℕ) (x : AssortmentParts) → a < l.place → slice_get l.instruction.assortments a ≡ Some x
      → bit_at l.marks a ≡ 1 ↔ TakesWood x l.species l.grades;
  clean : (a : ℕ) → l.place ≤ a → bit_at l.marks a ≡ 0;
}
