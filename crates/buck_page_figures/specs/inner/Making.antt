-- How the figures of some journals are made.
use Rattle.std.specs.Prelude.{◌≡◌, ◌↔◌, ℕ, ◌+◌, ◌<◌, IsTrue, List, length, slice_get, Some}
use Rattle.buck_apt_instruction.specs.Instruction.{InstructionParts}
use Rattle.buck_book_postings.specs.declared.posting.Posting.{Posting}
use Rattle.buck_book_postings.specs.Posting.{ends_of}
use Rattle.buck_book_postings.specs.History.{prices_at}
use Rattle.buck_book_postings.specs.Walk.{passed}
use Rattle.buck_book_journal.specs.Journal.{JournalParts}
use Rattle.buck_page_figures.specs.Degrees.{AreDegreesBy}
use Rattle.buck_page_figures.specs.Journals.{postings_of, sheets_in}
use Rattle.buck_page_figures.specs.Points.{point_after, IsPoint}
use Rattle.buck_page_figures.specs.inner.Course.{IsCourse}
use Rattle.buck_page_figures.specs.declared.degrees.Degrees.{Degrees}
use Rattle.buck_page_figures.specs.declared.figures.Point.{Point}
use Rattle.buck_page_figures.specs.declared.course.Course.{Course}

-- the degrees of each assortment, given what is wanted and what was cut of each class
pub record AreAllDegrees (i : InstructionParts) (targets counts : List ℕ) (degrees : List Degrees) : Type 0 where
  pub one_each : length degrees ≡ length i.assortments
  pub each : (a : ℕ) (d : Degrees) → slice_get degrees a ≡ Some d → AreDegreesBy i targets counts a d

-- the point at which a way stands, after so many demands before the last point
pub record IsPointOf (i : InstructionParts) (js : List JournalParts) (c : Course) (demands : ℕ) (p : Point)
    : Type 0 where
  pub after : p.after ≡ c.before + c.walk.at
  pub journal : p.journal ≡ c.journal
  pub version : p.version ≡ ends_of c.walk.instruction (passed c.walk)
  pub prices : p.prices.now ≡ prices_at (sheets_in (slice_get js p.journal)) p.version
  pub degrees : AreAllDegrees i c.targets.value.items c.account.tally.counts.items p.degrees.items
  pub unsteered : AreAllDegrees i c.targets.value.items c.account.tally.unsteered.items p.unsteered.items
  pub demand : IsTrue p.demand ↔ (demands < c.account.tally.total.demands)

-- a way that stands at the point of this number, and the points up to there
pub record AreCurves (i : InstructionParts) (js : List JournalParts) (number : ℕ) (c : Course) (curve : List Point)
    : Type 0 where
  pub unsteered : List Posting
  pub course : IsCourse i js (point_after (length (postings_of js)) number) unsteered c
  pub so_many : length curve ≡ number
  pub points : (k : ℕ) (p : Point)
      → slice_get curve k ≡ Some p
      → IsPoint i js unsteered (point_after (length (postings_of js)) k)
      (point_after (length (postings_of js)) (k + 1)) p
