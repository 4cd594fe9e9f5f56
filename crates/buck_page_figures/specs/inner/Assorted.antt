-- What the logs of each assortment come to, with some more.
use Rattle.std.specs.Prelude.{◌≡◌, ℕ, ◌+◌, ◌≤◌, List, length, slice_get, Some}
use Rattle.buck_apt_instruction.specs.Instruction.{InstructionParts}
use Rattle.buck_stem_shape.specs.Stem.{StemParts}
use Rattle.buck_value.specs.declared.log.Log.{Log}
use Rattle.buck_value.specs.Sheet.{SheetParts}
use Rattle.buck_value.specs.Allowed.{worth_of}
use Rattle.buck_book_postings.specs.declared.posting.Posting.{Posting}
use Rattle.buck_book_postings.specs.declared.posting.Posting.TheVariants.{Cut, Demand}
use Rattle.buck_book_postings.specs.Counts.{assortment_logs}
use Rattle.buck_page_figures.specs.Figures.{log_volume}
use Rattle.buck_page_figures.specs.Assorted.{sum_in_part}
use Rattle.buck_page_figures.specs.declared.figures.Part.{Part}

-- no log
pub record IsNone (p : Part) : Type 0 where
  pub logs : p.logs ≡ 0
  pub volume : p.volume ≡ 0
  pub logged : p.logged ≡ 0
  pub at_base : p.at_base ≡ 0

-- no log of each assortment
pub record AreNone (i : InstructionParts) (parts : List Part) : Type 0 where
  pub one_each : length parts ≡ length i.assortments
  pub each : (a : ℕ) (p : Part) → slice_get parts a ≡ Some p → IsNone p

-- what the logs of an assortment come to with those of some more logs of a stem
pub record IsPartWith (s : SheetParts) (stem : StemParts) (gs : List Log) (a : ℕ) (before after : Part) : Type 0 where
  pub logs : after.logs ≡ before.logs + assortment_logs a gs
  pub volume : after.volume ≡ before.volume + sum_in_part (log_volume stem) a gs
  pub logged : after.logged ≡ before.logged + sum_in_part (λ x. x.length) a gs
  pub at_base : after.at_base ≡ before.at_base + sum_in_part (worth_of s stem) a gs

-- of each assortment
pub record ArePartsWith (s : SheetParts) (stem : StemParts) (gs : List Log) (before after : List Part) : Type 0 where
  pub same_number : length after ≡ length before
  pub each : (a : ℕ) (p q : Part)
      → slice_get before a ≡ Some p
      → slice_get after a ≡ Some q
      → IsPartWith s stem gs a p q

-- with a posting more that is cut into some logs; a demand cuts nothing
abbrev pub ArePartsOn : SheetParts → Posting → List Log → List Part → List Part → Type 0
ArePartsOn s (Cut e) logs before after = ArePartsWith s e.stem logs before after
ArePartsOn s (Demand d) logs before after = after ≡ before

-- no assortment has more logs than this
abbrev pub AreFew : ℕ → List Part → Type 0
AreFew most parts = (a : ℕ) (p : Part) → slice_get parts a ≡ Some p → p.logs ≤ most
