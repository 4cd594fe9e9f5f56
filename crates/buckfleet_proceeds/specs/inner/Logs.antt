-- What logs of a stem come to, log by log.
use Rattle.std.specs.Prelude.{◌≡◌, ◌⊎◌, ℕ, ◌+◌, ◌<◌, ◌≤◌, List, length, slice_get, sum_by, Some}
use Rattle.buck_apt_instruction.specs.Instruction.{InstructionParts}
use Rattle.buck_stem_shape.specs.Stem.{StemParts, stem_length}
use Rattle.buck_value.specs.declared.log.Log.{Log}
use Rattle.buck_value.specs.Sheet.{SheetParts}
use Rattle.buck_value.specs.Allowed.{IsAllowed, top_of, worth_of}
use Rattle.buck_dp.specs.Best.{cutting_worth}
use Rattle.buck_book_postings.specs.Counts.{assortment_logs}
use Rattle.buck_page_figures.specs.Figures.{log_volume}
use Rattle.buck_page_figures.specs.Assorted.{sum_in_part}
use Rattle.buckfleet_proceeds.specs.declared.paid.Paid.{Paid}
use Rattle.buckfleet_proceeds.specs.Paid.{AreBought}

-- a log lies within its stem, is no longer than a log may be, and its assortment is one of the instruction's
pub record Fits (own : InstructionParts) (stem : StemParts) (g : Log) : Type 0 where
  pub within : top_of g ≤ stem_length stem.samples
  pub long : g.length ≤ 30000
  pub exists : g.assortment < length own.assortments

-- what a log comes to
abbrev pub IsPaidAlone : SheetParts → StemParts → Log → Paid → Type 0
IsPaidAlone s stem g p =
    (IsAllowed s.instruction stem g × (p.worth ≡ worth_of s stem g) × (p.unbought ≡ 0))
    ⊎ ((IsAllowed s.instruction stem g → ⊥) × (p.worth ≡ 0) × (p.unbought ≡ 1))

-- what logs come to, given those that are bought: how many aren't, their volume, and their worth
pub record AreAll (s : SheetParts) (stem : StemParts) (gs bought : List Log) (u v w : ℕ) : Type 0 where
  pub unbought : u + length bought ≡ length gs
  pub cubic : v ≡ sum_by (log_volume stem) gs
  pub money : w ≡ cutting_worth s stem bought

-- what the logs of an assortment come to with some more
pub record IsPart (s : SheetParts) (stem : StemParts) (a : ℕ) (gs bought : List Log) (p q : Paid) : Type 0 where
  pub number : q.logs ≡ p.logs + assortment_logs a gs
  pub unbought : q.unbought + assortment_logs a bought ≡ p.unbought + assortment_logs a gs
  pub cubic : q.volume ≡ p.volume + sum_in_part (log_volume stem) a gs
  pub money : q.worth ≡ p.worth + sum_in_part (worth_of s stem) a bought

-- logs were added, each to its assortment: which of them are bought, what they come to together, and each assortment
pub record AreAdded (s : SheetParts) (stem : StemParts) (gs bought : List Log) (before after : List Paid) (u v w : ℕ)
    : Type 0 where
  pub are_bought : AreBought s.instruction stem gs bought
  pub together : AreAll s stem gs bought u v w
  pub same_number : length after ≡ length before
  pub each : (a : ℕ) (p q : Paid) → slice_get before a ≡ Some p → slice_get after a ≡ Some q
      → IsPart s stem a gs bought p q

-- no assortment has more logs than this
abbrev pub AreFew : ℕ → List Paid → Type 0
AreFew most parts = (a : ℕ) (p : Paid) → slice_get parts a ≡ Some p → p.logs ≤ most

-- no log, and no log of each assortment
abbrev pub IsNone : Paid → Type 0
IsNone p = (p.logs ≡ 0) × (p.unbought ≡ 0) × (p.volume ≡ 0) × (p.worth ≡ 0)

pub record AreNone (own : InstructionParts) (parts : List Paid) : Type 0 where
  pub one_each : length parts ≡ length own.assortments
  pub each : (a : ℕ) (p : Paid) → slice_get parts a ≡ Some p → IsNone p
