-- How a text grows by one stem, and one that is in pieces.
use Rattle.std.specs.Prelude.{◌≡◌, ◌++◌, ◌≤◌, ◌*◌, ℕ, List, length}
use Rattle.std.specs.List.{flat_map}
use Rattle.buck_stem_shape.specs.Stem.{StemParts}
use Rattle.buck_value.specs.declared.log.Log.{Log}
use Rattle.buck_value.specs.Sheet.{SheetParts}
use Rattle.buck_dp.specs.Best.{IsFirstBest, cutting_worth}
use Rattle.buckfleet_engine_text.specs.declared.bucking.Lines.{Lines}
use Rattle.buckfleet_engine_text.specs.declared.bucking.Runs.{Runs}
use Rattle.buckfleet_engine_text.specs.Text.{joined}
use Rattle.buckfleet_engine_text.specs.Bucking.{CutStem, IsBucking, stem_lines, logs_of, worth_of_all}

-- a stem was cut, and its lines were put to a text: how many logs there are, and their worth
pub record IsPut (sheet : SheetParts) (stem : StemParts) (old new : List ℕ) (count worth : ℕ) : Type 0 where
  pub logs : List Log
  pub best : IsFirstBest sheet stem logs
  pub count_is : count ≡ length logs
  pub worth_is : worth ≡ cutting_worth sheet stem logs
  pub lines : new ≡ old ++ stem_lines sheet (record { stem = stem; logs = logs })

-- stems were cut one after the other: their lines, how many logs there are, and their worth
pub record AreLines (sheet : SheetParts) (stems : List StemParts) (text : List ℕ) (logs worth : ℕ) : Type 0 where
  pub cuts : List CutStem
  pub bucking : IsBucking sheet stems cuts
  pub lines : text ≡ flat_map (stem_lines sheet) cuts
  pub logs_is : logs ≡ logs_of cuts
  pub worth_is : worth ≡ worth_of_all sheet cuts
  pub logs_low : logs ≤ length stems * 18446744073709551616
  pub worth_low : worth ≤ length stems * 18446744073709551616

abbrev pub AreLinesOf : SheetParts → List StemParts → Lines → Type 0
AreLinesOf sheet stems l = AreLines sheet stems l.text.items l.logs l.worth

abbrev pub AreRunsOf : SheetParts → List StemParts → Runs → Type 0
AreRunsOf sheet stems r = AreLines sheet stems (joined r.texts.items) r.logs r.worth
