-- Logs as they were cut.
use Rattle.std.specs.Prelude.{◌≡◌, ◌≢◌, ℕ, ◌<◌, ◌≤◌, List, length, slice_get, slice_index, Option, Some, None}
use Rattle.buck_apt_instruction.specs.Instruction.{IsClass, index_of}
use Rattle.buck_stem_shape.specs.Stem.{StemParts}
use Rattle.buck_value.specs.declared.log.Log.{Log}
use Rattle.buck_value.specs.Sheet.{SheetParts, price_of}
use Rattle.buck_value.specs.Allowed.{class_of, kind_in, top_diameter, worth_of}
use Rattle.buck_value.specs.Volume.{worth_at}
use Rattle.buck_page_figures.specs.Figures.{log_volume, as_posting}
use Rattle.buck_dp.specs.Best.{IsFirstBest, cutting_worth}
use Rattle.buck_book_postings.specs.Entry.{EntryParts}
use Rattle.buck_book_postings.specs.History.{prices_at}
use Rattle.buck_book_postings.specs.declared.posting.Posting.{Posting}
use Rattle.buck_page_figures.specs.declared.figures.Piece.{Piece}
use Rattle.buck_page_figures.specs.declared.figures.Cut.{Cut}
use Rattle.buck_page_figures.specs.declared.figures.Place.{Place}
use Rattle.buck_book_journal.specs.Journal.{JournalParts}
use Rattle.buck_page_figures.specs.Journals.{StandsAt, entries_in, postings_of, sheets_in}

-- a log of a stem, cut under some prices, one for each class, beside a sheet of base prices
pub record IsPiece (base : SheetParts) (prices : List ℕ) (stem : StemParts) (g : Log) (p : Piece) : Type 0 where
  pub log : p.log ≡ g
  pub class : p.class ≡ class_of base.instruction stem g
  pub exists : IsClass base.instruction p.class
  pub index : p.index ≡ index_of base.instruction p.class
  pub top : p.top ≡ top_diameter stem g
  pub volume : p.volume ≡ log_volume stem g
  pub price : p.price ≡ slice_index prices p.index
  pub worth : p.worth
      ≡ worth_at (kind_in (slice_get base.instruction.assortments g.assortment)) p.price p.volume
  pub base_price : p.base_price ≡ price_of base p.class
  pub base_worth : p.base_worth ≡ worth_of base stem g

-- each log of a cutting
pub record ArePieces (base : SheetParts) (prices : List ℕ) (stem : StemParts) (logs : List Log) (pieces : List Piece)
    : Type 0 where
  pub same_number : length pieces ≡ length logs
  pub each : (k : ℕ) (g : Log) (p : Piece)
      → slice_get logs k ≡ Some g
      → slice_get pieces k ≡ Some p
      → IsPiece base prices stem g p

-- a cut log by log, beside the first best cutting of its stem at base prices
pub record IsCut (base : SheetParts) (prices : List ℕ) (e : EntryParts) (c : Cut) : Type 0 where
  pub entry : c.entry.now ≡ e
  pub pieces : ArePieces base prices e.stem e.logs c.pieces.items
  pub at_base : c.at_base ≡ cutting_worth base e.stem e.logs
  pub unsteered : IsFirstBest base e.stem c.unsteered.logs.items
  pub best : c.best ≡ cutting_worth base e.stem c.unsteered.logs.items

-- the posting at a place of some journals
abbrev pub posting_in : List JournalParts → Place → Option Posting
posting_in js place = slice_get (entries_in (slice_get js place.journal)) place.at

-- the cut at a place among the postings of some journals, which was planned under the sheet of its version; nothing if
-- no cut stands there
abbrev pub IsToldAt : SheetParts → List JournalParts → Place → Option Cut → Type 0
IsToldAt base js place None = (e : EntryParts) → posting_in js place ≢ Some (as_posting e)
IsToldAt base js place (Some c) =
    (c.place ≡ place)
    × (posting_in js place ≡ Some (as_posting c.entry.now))
    × IsCut base (prices_at (sheets_in (slice_get js place.journal)) c.entry.now.version) c.entry.now c

-- the place of the posting at a position through all journals; none past the last
abbrev pub IsPlaceAt : List JournalParts → ℕ → Option Place → Type 0
IsPlaceAt js position None = length (postings_of js) ≤ position
IsPlaceAt js position (Some place) =
    StandsAt js place.journal place.at position × (place.at < length (entries_in (slice_get js place.journal)))
