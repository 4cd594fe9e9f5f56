-- The figures of some journals, and what can be shown of them.
use Rattle.std.specs.Prelude.{◌≡◌, ℕ, ◌-◌, ◌<◌, List, All, length, slice_get, Some}
use Rattle.buck_apt_instruction.specs.Instruction.{InstructionParts, classes}
use Rattle.buck_value.specs.Sheet.{SheetParts}
use Rattle.buck_dp.specs.Best.{IsAdmissible}
use Rattle.buck_book_postings.specs.declared.posting.Posting.{Posting}
use Rattle.buck_book_postings.specs.declared.posting.Posting.TheVariants.{Cut, Demand}
use Rattle.buck_book_postings.specs.Posting.{ends_of, targets_of}
use Rattle.buck_book_postings.specs.Counts.{AreClassCounts}
use Rattle.buck_book_postings.specs.History.{prices_at}
use Rattle.buck_book_journal.specs.Journal.{JournalParts}
use Rattle.buck_page_figures.specs.Journals.{postings_of}
use Rattle.buck_page_figures.specs.Figures.{base_sheet, AreUnsteered}
use Rattle.buck_page_figures.specs.Sums.{AreSums}
use Rattle.buck_page_figures.specs.Owns.{AreOwns}
use Rattle.buck_page_figures.specs.Assorted.{AreParts}
use Rattle.buck_page_figures.specs.Points.{ArePoints}
use Rattle.buck_page_figures.specs.Greatest.{IsFirstGreatest, lengths_of, costs_of}
use Rattle.buck_page_figures.specs.declared.figures.Figures.{Figures}

-- the figures of some journals: each is its definition over all their postings, and over the same unsteered; targets
-- and prices are those at the end of the last
pub record AreFigures (i : InstructionParts) (js : List JournalParts) (f : Figures) : Type 0 where
  pub instruction : f.instruction.now ≡ i
  pub journals : f.journals.now ≡ js
  pub postings : f.postings ≡ length (postings_of js)
  pub without : List Posting
  pub are_unsteered : AreUnsteered i (postings_of js) without
  pub counts : AreClassCounts i (postings_of js) f.counts.items
  pub unsteered : AreClassCounts i without f.unsteered.items
  pub last : JournalParts
  pub is_last : slice_get js (length js - 1) ≡ Some last
  pub targets : f.targets.value.items ≡ targets_of i last.entries
  pub prices : f.prices.now ≡ prices_at last.sheets (ends_of i last.entries)
  pub total : AreSums i (postings_of js) without f.total
  pub harvesters : AreOwns i (postings_of js) without f.harvesters
  pub assortments : AreParts i (postings_of js) f.assortments.items
  pub unsteered_assortments : AreParts i without f.unsteered_assortments.items
  pub points : ArePoints i js without f.points.items
  pub longest : IsFirstGreatest (lengths_of (postings_of js)) f.longest
  pub dearest : IsFirstGreatest (costs_of i (postings_of js) without) f.dearest

-- the logs of a cut can be cut, and the sheet that it was planned under is there, with a price for each class
abbrev pub IsShowable : InstructionParts → List (List ℕ) → Posting → Type 0
IsShowable i sheets (Cut e) =
    IsAdmissible (base_sheet i) e.stem e.logs
    × (e.version < length sheets)
    × (length (prices_at sheets e.version) ≡ classes i)
IsShowable i sheets (Demand d) = Unit {0}

-- each cut of a journal can be shown
abbrev pub AreShowable : InstructionParts → JournalParts → Type 0
AreShowable i j = All (λ x. IsShowable i j.sheets x) j.entries

-- each cut can be shown, beside its stem's best cutting under this sheet, that of base prices
pub record IsShown (f : Figures) (base : SheetParts) : Type 0 where
  pub base_is : base ≡ base_sheet f.instruction.now
  pub showable : All (λ j. AreShowable f.instruction.now j) f.journals.now
