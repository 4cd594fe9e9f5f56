-- A plan as clauses see it.
use Rattle.std.specs.Prelude.{◌≡◌, ℕ, List}
use Rattle.buck_stem_shape.specs.Stem.{StemParts, IsStem}
use Rattle.buck_value.specs.declared.log.Log.{Log}
use Rattle.buck_value.specs.Sheet.{SheetParts, IsSheet}
use Rattle.buck_dp.specs.Best.{IsFirstBest, cutting_worth}

pub record PlanParts : Type 0 where
  pub stem : StemParts
  pub sheet : SheetParts
  pub logs : List Log
  pub worth : ℕ  -- millionths of the price unit

abbrev pub plan_of : StemParts → SheetParts → List Log → ℕ → PlanParts
plan_of stem sheet logs worth = record { stem = stem; sheet = sheet; logs = logs; worth = worth }

-- the first of the best cuttings of a stem under a sheet, with its worth
pub record IsPlan (p : PlanParts) : Type 0 where
  pub stem_valid : IsStem p.stem
  pub sheet_valid : IsSheet p.sheet
  pub first_best : IsFirstBest p.sheet p.stem p.logs
  pub worth_is : p.worth ≡ cutting_worth p.sheet p.stem p.logs
