-- Felled stems as a caller in another language has them, and why one isn't cut.
use Rattle.std.specs.Prelude.{◌≡◌, ℕ, ◌<◌, ◌≤◌, List, length, map}
use Rattle.buck_apt_instruction.specs.Instruction.{IsWithin}
use Rattle.buck_stem_shape.specs.Stem.{StemParts, IsStem, stem_of}
use Rattle.buck_c_session.specs.declared.felling.Felled.{Felled}
use Rattle.buck_c_session.specs.declared.felling.Zone.{Zone}
use Rattle.buck_c_session.specs.declared.felling.FellFault.{FellFault}
use Rattle.buck_c_session.specs.declared.felling.FellFault.TheVariants.{Harvester, Stem, Full, Memory}
use Rattle.buck_c_session.specs.Kept.{KeptParts}

abbrev pub pair_of : Zone → ℕ × ℕ
pair_of z = (z.start, z.grade)

-- the stem of these parts
abbrev pub stem_by : Felled → List ℕ → List Zone → StemParts
stem_by felled samples zones = stem_of felled.number felled.species samples (map pair_of zones)

-- why a stem isn't cut: the harvester is looked at first, then the stem, then the capacity
abbrev pub IsFellFault : KeptParts → Felled → StemParts → FellFault → Type 0
IsFellFault before felled stem Harvester = 0 < felled.harvester → felled.harvester ≤ 64 → ⊥
IsFellFault before felled stem Stem = IsWithin 1 64 felled.harvester × (IsStem stem → ⊥)
IsFellFault before felled stem Full =
    IsWithin 1 64 felled.harvester × IsStem stem × (length before.history.postings ≡ before.capacity)
IsFellFault before felled stem Memory = Unit {0}
