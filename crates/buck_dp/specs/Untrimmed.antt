-- Cuttings as if no assortment had a trim allowance, for the law that nothing else changes if each trim is 0. No
-- other contract leads here.
use Rattle.std.specs.Prelude.{List}
use Rattle.buck_value.specs.declared.log.Log.{Log}
use Rattle.buck_stem_shape.specs.Stem.{StemParts}
use Rattle.buck_value.specs.Sheet.{SheetParts}
use Rattle.buck_value.specs.Allowed.{top_of}
use Rattle.buck_value.specs.Untrimmed.{IsAllowedUntrimmed}
use Rattle.buck_dp.specs.Cutting.{IsCutFrom}

-- each log is allowed and starts at or after the end of the one before, which ends with its length
abbrev pub IsAdmissibleUntrimmed : SheetParts → StemParts → List Log → Type 0
IsAdmissibleUntrimmed sheet stem logs = IsCutFrom (IsAllowedUntrimmed sheet.instruction stem) top_of 0 logs
