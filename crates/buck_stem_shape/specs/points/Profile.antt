-- A stem at the multiples of a module.
use Rattle.std.specs.Prelude.{◌≡◌, ℕ, ◌+◌, ◌*◌, ◌-◌, ◌/◌, ◌≤◌, ◌↔◌, List}
use Rattle.std.specs.Int.{bit_at}
use Rattle.buck_stem_shape.specs.Stem.{StemParts, stem_length, HasGrade}

-- what a profile shows: its stem, and the module in mm
pub record ProfileParts : Type 0 where
  pub stem : StemParts
  pub «module» : ℕ

abbrev pub profile_of : StemParts → ℕ → ProfileParts
profile_of stem step = record { stem = stem; «module» = step }

-- how many multiples of the module lie within the stem, the butt among them
abbrev pub points_of : ProfileParts → ℕ
points_of p = stem_length p.stem.samples / p.«module» + 1

-- bit g - 1 says whether some place from a up to b has grade g
abbrev pub IsMask : List (ℕ × ℕ) → ℕ → ℕ → ℕ → Type 0
IsMask zones a b mask = (g : ℕ) → 1 ≤ g → (bit_at mask (g - 1) ≡ 1) ↔ HasGrade zones a b g

-- the mask says which grades stand from point i up to point j
abbrev pub IsMaskBetween : ProfileParts → ℕ → ℕ → ℕ → Type 0
IsMaskBetween p i j mask = IsMask p.stem.zones (i * p.«module») (j * p.«module») mask
