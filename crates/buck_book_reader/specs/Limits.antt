-- Numbers that are within the limits of a stem.
use Rattle.std.specs.Prelude.{ℕ, ◌≤◌, List, length, All}
use Rattle.buck_stem_shape.specs.declared.slots.TheConstants.{SAMPLES, MOST_SAMPLES, STARTS, MOST_ZONES}
use Rattle.buck_stem_shape.specs.Stem.{IsGrade, IsRisingFrom}

pub record AreSamples (samples : List ℕ) : Type 0 where
  pub samples_number : (1 ≤ length samples) × (length samples ≤ MOST_SAMPLES)
  pub samples_range : All (λ d. d ≤ SAMPLES.high) samples

pub record AreZones (zones : List (ℕ × ℕ)) : Type 0 where
  pub zones_number : length zones ≤ MOST_ZONES
  pub starts_range : All (λ z. z.0 ≤ STARTS.high) zones
  pub starts_rise : IsRisingFrom 0 zones
  pub grades_range : All (λ z. IsGrade z.1) zones
