-- What postings are worth under a sheet that their cuttings keep to.
use Rattle.std.specs.Prelude.{ℕ}
use Rattle.buck_value.specs.Sheet.{SheetParts}
use Rattle.buck_dp.specs.Best.{IsAdmissible, cutting_worth}
use Rattle.buck_book_postings.specs.declared.posting.Posting.{Posting}
use Rattle.buck_book_postings.specs.declared.posting.Posting.TheVariants.{Cut, Demand}

-- a cutting may be made under a sheet
abbrev pub IsCutUnder : SheetParts → Posting → Type 0
IsCutUnder sheet (Cut e) = IsAdmissible sheet e.stem e.logs
IsCutUnder sheet (Demand d) = Unit {0}

abbrev pub worth_under : SheetParts → Posting → ℕ
worth_under sheet (Cut e) = cutting_worth sheet e.stem e.logs
worth_under sheet (Demand d) = 0
