-- The order of logs and of cuttings that settles ties.
use Rattle.std.specs.Prelude.{◌≡◌, ◌<◌, ◌⊎◌, List, [], ◌∷◌}
use Rattle.buck_value.specs.declared.log.Log.{Log}

-- the lower start is first, then the shorter log, then the lower assortment
abbrev pub IsLogBefore : Log → Log → Type 0
IsLogBefore a b =
    (a.start < b.start)
    ⊎ ((a.start ≡ b.start)
    × ((a.length < b.length) ⊎ ((a.length ≡ b.length) × (a.assortment < b.assortment))))

-- at the first difference the log that is before; a list that goes on is before its own prefix
abbrev pub IsBefore : List Log → List Log → Type 0
IsBefore [] _ = ⊥
IsBefore (_ ∷ _) [] = Unit {0}
IsBefore (a ∷ as_) (b ∷ bs) = IsLogBefore a b ⊎ ((a ≡ b) × IsBefore as_ bs)
