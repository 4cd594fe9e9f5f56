-- A cutting as a caller in another language sees it.
use Rattle.std.specs.Prelude.{◌≡◌, ℕ, length, Some, slice_get, slice_index_or}
use Rattle.buck_stem_shape.specs.Stem.{StemParts, IsStem}
use Rattle.buck_value.specs.declared.log.Log.{Log}
use Rattle.buck_value.specs.Sheet.{SheetParts, IsSheet, price_of}
use Rattle.buck_value.specs.Allowed.{class_of, top_diameter, worth_of}
use Rattle.buck_dp.specs.Best.{IsAdmissible}
use Rattle.buck_book_postings.specs.Entry.{EntryParts}
use Rattle.buck_c_calls.specs.declared.showing.Cut.{Cut}
use Rattle.buck_c_calls.specs.declared.showing.CutLog.{CutLog}

-- a stem was cut so that the sheet's instruction allows it
pub record IsCutUnder (sheet : SheetParts) (e : EntryParts) : Type 0 where
  pub sheet_valid : IsSheet sheet
  pub stem_valid : IsStem e.stem
  pub admissible : IsAdmissible sheet e.stem e.logs

-- a log as it is shown: its class, its top diameter in mm, and its price and its worth under a sheet
pub record ShowsLog (sheet : SheetParts) (stem : StemParts) (g : Log) (shown : CutLog) : Type 0 where
  pub start : shown.start ≡ g.start
  pub length_is : shown.length ≡ g.length
  pub assortment : shown.assortment ≡ g.assortment
  pub row : shown.row ≡ (class_of sheet.instruction stem g).row
  pub column : shown.column ≡ (class_of sheet.instruction stem g).column
  pub top : shown.top ≡ top_diameter stem g
  pub price : shown.price ≡ price_of sheet (class_of sheet.instruction stem g)
  pub worth : shown.worth ≡ worth_of sheet stem g

-- an entry as it is shown, which stands at a position of a book and was planned under a sheet
pub record ShowsCut (sheet : SheetParts) (position : ℕ) (e : EntryParts) (shown : Cut) : Type 0 where
  pub position_is : shown.position ≡ position
  pub number : shown.number ≡ e.number
  pub version : shown.version ≡ e.version
  pub worth : shown.worth ≡ e.worth
  pub logs_number : shown.logs_number ≡ length e.logs
  pub logs : (k : ℕ) (g : Log) (d : CutLog) → slice_get e.logs k ≡ Some g
      → ShowsLog sheet e.stem g (slice_index_or shown.logs k d)
