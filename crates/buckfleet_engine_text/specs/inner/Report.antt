-- What the lines of a report are put from.
use Rattle.std.specs.Prelude.{◌≡◌, ◌<◌, length, slice_get, Some}
use Rattle.buck_apt_instruction.specs.declared.class.Class.{Class}
use Rattle.buck_apt_instruction.specs.Instruction.{InstructionParts, AssortmentParts, classes}
use Rattle.buck_book_postings.specs.Counts.{AreClassCounts}
use Rattle.buck_book_postings.specs.History.{HistoryParts}
use Rattle.buckfleet_engine_text.specs.Report.{EndingParts, ending_of}

-- a number of each kind for each class
pub record IsEnding (e : EndingParts) : Type 0 where
  pub targets : length e.targets ≡ classes e.instruction
  pub counts : length e.counts ≡ classes e.instruction
  pub prices : length e.prices ≡ classes e.instruction

-- the class is one of this assortment of the instruction
pub record IsClassIn (i : InstructionParts) (a : AssortmentParts) (c : Class) : Type 0 where
  pub exists : slice_get i.assortments c.assortment ≡ Some a
  pub row : c.row < length a.diameters
  pub column : c.column < length a.lengths

-- all classes stand so at the end of a history
abbrev pub EndsSo : HistoryParts → EndingParts → Type 0
EndsSo h e = AreClassCounts h.instruction h.postings e.counts × (e ≡ ending_of h e.counts)
