-- What one posting comes to, and how it is added to others.
use Rattle.std.specs.Prelude.{◌≡◌, ◌+◌, ◌<◌, ◌^◌, List, [], ◌∷◌, sum_by, Option, Some, None}
use Rattle.buck_apt_instruction.specs.Instruction.{InstructionParts}
use Rattle.buck_stem_shape.specs.Stem.{StemParts}
use Rattle.buck_value.specs.declared.log.Log.{Log}
use Rattle.buck_value.specs.Sheet.{SheetParts}
use Rattle.buck_value.specs.Allowed.{trim_of}
use Rattle.buck_dp.specs.declared.cutting.Cutting.{Cutting}
use Rattle.buck_dp.specs.Best.{IsAdmissible, cutting_worth}
use Rattle.buck_book_postings.specs.declared.posting.Posting.{Posting}
use Rattle.buck_book_postings.specs.declared.posting.Posting.TheVariants.{Cut, Demand}
use Rattle.buck_page_figures.specs.Figures.{base_sheet, IsUnsteered, log_volume}
use Rattle.buck_page_figures.specs.Sums.{AreSums}
use Rattle.buck_page_figures.specs.declared.sums.Sums.{Sums}
use Rattle.buck_page_figures.specs.declared.adding.Wood.{Wood}

-- two sums added
pub record AreSumsTogether (a b s : Sums) : Type 0 where
  pub stems : s.stems ≡ a.stems + b.stems
  pub demands : s.demands ≡ a.demands + b.demands
  pub logs : s.logs ≡ a.logs + b.logs
  pub volume : s.volume ≡ a.volume + b.volume
  pub length : s.length ≡ a.length + b.length
  pub logged : s.logged ≡ a.logged + b.logged
  pub trim : s.trim ≡ a.trim + b.trim
  pub worth : s.worth ≡ a.worth + b.worth
  pub at_base : s.at_base ≡ a.at_base + b.at_base
  pub best : s.best ≡ a.best + b.best

-- what the logs of a cutting come to
pub record IsWoodOf (sheet : SheetParts) (stem : StemParts) (logs : List Log) (w : Wood) : Type 0 where
  pub volume : w.volume ≡ sum_by (log_volume stem) logs
  pub logged : w.logged ≡ sum_by (λ g. g.length) logs
  pub trim : w.trim ≡ sum_by (trim_of sheet.instruction) logs
  pub at_base : w.at_base ≡ cutting_worth sheet stem logs

-- each part fits 64 bits
pub record IsLow (w : Wood) : Type 0 where
  pub volume : w.volume < 2 ^ 64
  pub logged : w.logged < 2 ^ 64
  pub trim : w.trim < 2 ^ 64
  pub at_base : w.at_base < 2 ^ 64

-- the logs of a posting
abbrev pub logs_of : Posting → List Log
logs_of (Cut e) = e.logs
logs_of (Demand d) = []

-- what a posting comes to, and the logs of its stem cut best at base prices
pub record IsPassed (i : InstructionParts) (x : Posting) (s : Sums) (logs : List Log) : Type 0 where
  pub unsteered : Posting
  pub is_unsteered : IsUnsteered i x unsteered
  pub logs_are : logs ≡ logs_of unsteered
  pub sums : AreSums i (x ∷ []) (unsteered ∷ []) s

-- a cut is admissible
abbrev pub IsCuttable : InstructionParts → Posting → Type 0
IsCuttable i (Cut e) = IsAdmissible (base_sheet i) e.stem e.logs
IsCuttable i (Demand d) = Unit {0}

-- the logs of a cutting, if there is one
abbrev pub logs_in_some : Option Cutting → List Log
logs_in_some None = []
logs_in_some (Some c) = c.logs.items
