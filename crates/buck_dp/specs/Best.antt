-- Cuttings of a stem under a sheet, and the best of them: the longest paths of M. Näsberg, "Mathematical Programming
-- Models for Optimal Log Bucking", Linköping, 1985.
use Rattle.std.specs.Prelude.{◌≢◌, ℕ, ◌≤◌, List, sum_by}
use Rattle.buck_value.specs.declared.log.Log.{Log}
use Rattle.buck_stem_shape.specs.Stem.{StemParts}
use Rattle.buck_value.specs.Sheet.{SheetParts}
use Rattle.buck_value.specs.Allowed.{IsAllowed, worth_of, end_of}
use Rattle.buck_dp.specs.Order.{IsBefore}
use Rattle.buck_dp.specs.Cutting.{IsCutFrom}

-- each log is allowed and starts at or after the end of the one before
abbrev pub IsAdmissible : SheetParts → StemParts → List Log → Type 0
IsAdmissible sheet stem logs = IsCutFrom (IsAllowed sheet.instruction stem) (end_of sheet.instruction) 0 logs

-- the worths of the logs together, in millionths of the price unit
abbrev pub cutting_worth : SheetParts → StemParts → List Log → ℕ
cutting_worth sheet stem logs = sum_by (worth_of sheet stem) logs

-- admissible, and no admissible list of logs has a greater worth
pub record IsBest (sheet : SheetParts) (stem : StemParts) (logs : List Log) : Type 0 where
  pub admissible : IsAdmissible sheet stem logs
  pub none_outvalues : (others : List Log) → IsAdmissible sheet stem others
      → cutting_worth sheet stem others ≤ cutting_worth sheet stem logs

-- the best cutting that comes before every other best one
pub record IsFirstBest (sheet : SheetParts) (stem : StemParts) (logs : List Log) : Type 0 where
  pub best : IsBest sheet stem logs
  pub first : (others : List Log) → IsBest sheet stem others → others ≢ logs → IsBefore logs others
