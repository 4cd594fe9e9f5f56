-- Cuttings over any rule of which logs are allowed and where a log ends.
use Rattle.std.specs.Prelude.{ℕ, ◌≤◌, List, [], ◌∷◌}
use Rattle.buck_value.specs.declared.log.Log.{Log}

-- each log is allowed and starts at or after the end of the one before, the first at or after `from`
abbrev pub IsCutFrom : (Log → Type 0) → (Log → ℕ) → ℕ → List Log → Type 0
IsCutFrom Allowed end_of from [] = Unit {0}
IsCutFrom Allowed end_of from (g ∷ gs) = (from ≤ g.start) × Allowed g × IsCutFrom Allowed end_of (end_of g) gs
