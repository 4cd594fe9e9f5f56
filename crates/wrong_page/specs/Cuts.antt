-- Postings for which wrong figures differ from the right ones.
use Rattle.std.specs.Prelude.{◌≡◌, ◌≢◌, ℕ, ◌<◌, List, [], ◌∷◌, slice_index}
use Rattle.buck_apt_instruction.specs.declared.class.Class.{Class}
use Rattle.buck_apt_instruction.specs.Instruction.{InstructionParts, index_of}
use Rattle.buck_apt_instruction.specs.Grades.{grade_free}
use Rattle.buck_stem_shape.specs.Stem.{stem_length}
use Rattle.buck_value.specs.declared.log.Log.{Log}
use Rattle.buck_value.specs.Sheet.{price_of}
use Rattle.buck_value.specs.Allowed.{class_of}
use Rattle.buck_dp.specs.Best.{IsAdmissible, cutting_worth}
use Rattle.buck_book_postings.specs.declared.posting.Posting.{Posting}
use Rattle.buck_book_postings.specs.declared.posting.Posting.TheVariants.{Cut, Demand}
use Rattle.buck_book_postings.specs.Counts.{class_logs}
use Rattle.buck_book_postings.specs.History.{prices_at}
use Rattle.buck_book_postings.specs.Entry.{EntryParts, DemandParts}
use Rattle.buck_book_journal.specs.Journal.{JournalParts}
use Rattle.buck_page_figures.specs.Figures.{base_sheet}

-- another cutting of a cut's stem is worth more at base prices
pub record IsOutvalued (i : InstructionParts) (e : EntryParts) : Type 0 where
  pub logs : List Log
  pub admissible : IsAdmissible (base_sheet i) e.stem logs
  pub more : cutting_worth (base_sheet i) e.stem e.logs < cutting_worth (base_sheet i) e.stem logs

-- a demand, and then a cut
abbrev pub IsAfterDemand : List Posting → EntryParts → Type 0
IsAfterDemand ps e = (d : DemandParts) × (ps ≡ Demand d ∷ Cut e ∷ [])

-- a cut of one log, whose price was off its base when it was planned
pub record IsOffBase (i : InstructionParts) (sheets : List (List ℕ)) (e : EntryParts) : Type 0 where
  pub log : Log
  pub only : e.logs ≡ log ∷ []
  pub off : slice_index (prices_at sheets e.version) (index_of i (class_of i e.stem log))
      ≢ price_of (base_sheet i) (class_of i e.stem log)

-- one cut, of which a log is of a class
pub record IsOneCutInto (i : InstructionParts) (ps : List Posting) (c : Class) : Type 0 where
  pub entry : EntryParts
  pub only : ps ≡ Cut entry ∷ []
  pub some : 0 < class_logs i c entry.stem entry.logs

-- two cuts
pub record AreTwoCuts (ps : List Posting) : Type 0 where
  pub first : EntryParts
  pub second : EntryParts
  pub are : ps ≡ Cut first ∷ Cut second ∷ []

-- of harvesters 1 and 2
pub record AreOfTwoHarvesters (ps : List Posting) : Type 0 where
  pub cuts : AreTwoCuts ps
  pub one : cuts.first.harvester ≡ 1
  pub two : cuts.second.harvester ≡ 2

-- of stems 1 and 2
pub record AreOfTwoStems (ps : List Posting) : Type 0 where
  pub cuts : AreTwoCuts ps
  pub one : cuts.first.stem.number ≡ 1
  pub two : cuts.second.stem.number ≡ 2

-- of stems of one length
pub record AreAsLong (ps : List Posting) : Type 0 where
  pub cuts : AreTwoCuts ps
  pub same : stem_length cuts.first.stem.samples ≡ stem_length cuts.second.stem.samples

-- without grades a cutting of a cut's stem is worth more at base prices than each with them
pub record IsHeldByGrades (i : InstructionParts) (e : EntryParts) : Type 0 where
  pub logs : List Log
  pub admissible : IsAdmissible (base_sheet (grade_free i)) e.stem logs
  pub more : (held : List Log)
      → IsAdmissible (base_sheet i) e.stem held
      → cutting_worth (base_sheet i) e.stem held < cutting_worth (base_sheet (grade_free i)) e.stem logs

-- a journal of one cut
abbrev pub day_of : List (List ℕ) → EntryParts → JournalParts
day_of sheets e = record { sheets = sheets; entries = Cut e ∷ [] }

-- two journals of one cut each
pub record AreADayEach (js : List JournalParts) : Type 0 where
  pub first : EntryParts
  pub second : EntryParts
  pub first_sheets : List (List ℕ)
  pub second_sheets : List (List ℕ)
  pub are : js ≡ day_of first_sheets first ∷ day_of second_sheets second ∷ []

-- of stems 1 and 2
pub record AreOfStemsEach (js : List JournalParts) : Type 0 where
  pub days : AreADayEach js
  pub one : days.first.stem.number ≡ 1
  pub two : days.second.stem.number ≡ 2
