-- The log types of an instruction, in the order that settles ties, and their ranks.
use Rattle.std.specs.Prelude.{◌≡◌, ℕ, ◌-◌, ◌<◌, ◌≤◌, ◌⊎◌, ◌↔◌, Contains, List, length, get_or, slice_get, Some, ◌*◌}
use Rattle.buck_dp.specs.inner.Words.{AssortmentParts, InstructionParts, HIGHEST_RANK, LogType, LogTypes}

abbrev pub log_type : ℕ → ℕ → LogType
log_type length assortment = record { length = length; assortment = assortment }

-- an assortment of an instruction has logs of this length
abbrev pub IsLogTypeOf : InstructionParts → LogType → Type 0
IsLogTypeOf i o = (x : AssortmentParts) × (slice_get i.assortments o.assortment ≡ Some x) × Contains x.lengths o.length

-- the log type of a rank, which is the highest less its place: the earlier, the higher
abbrev pub log_type_at : List LogType → ℕ → LogType
log_type_at types rank = get_or types (HIGHEST_RANK - rank) (log_type 0 0)

-- a log type has the rank
abbrev pub IsRank : List LogType → ℕ → Type 0
IsRank types rank = (rank ≤ HIGHEST_RANK) × (HIGHEST_RANK - rank < length types)

-- the first is shorter, or as long and not of a higher assortment
abbrev pub IsNoLater : LogType → LogType → Type 0
IsNoLater a b = (a.length < b.length) ⊎ ((a.length ≡ b.length) × (a.assortment ≤ b.assortment))

-- a list has the log types of an instruction and nothing else, in order
pub record AreLogTypes (i : InstructionParts) (types : List LogType) : Type 0 where
  pub few : length types ≤ 512
  pub all : (o : LogType) → Contains types o ↔ IsLogTypeOf i o
  pub order : (j k : ℕ) → j ≤ k → k < length types
      → IsNoLater (get_or types j (log_type 0 0)) (get_or types k (log_type 0 0))

-- the log types, and the least and the greatest length, are those of an instruction
pub record HasLogTypes (i : InstructionParts) (m : LogTypes) : Type 0 where
  pub list : AreLogTypes i m.list.items
  pub short : (r : ℕ) → IsRank m.list.items r → m.least_steps * i.«module» ≤ (log_type_at m.list.items r).length
  pub long : (r : ℕ) → IsRank m.list.items r → (log_type_at m.list.items r).length ≤ m.most_steps * i.«module»
  pub few : m.most_steps ≤ 4294967295

-- no row of an assortment starts or ends within the diameters from `low` on and below `past`
pub record IsBand (x : AssortmentParts) (low past : ℕ) : Type 0 where
  pub rows : (d : ℕ) → Contains x.diameters d → (d ≤ low) ⊎ (past ≤ d)
  pub upper : (x.upper ≤ low) ⊎ (past ≤ x.upper)

-- so for each assortment
pub record IsBandOf (i : InstructionParts) (low past : ℕ) : Type 0 where
  pub order : low < past
  pub high : past ≤ 2001
  pub each : (a : ℕ) (x : AssortmentParts) → slice_get i.assortments a ≡ Some x → IsBand x low past
