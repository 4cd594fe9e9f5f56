-- The points of the curves: how all stands after some of the postings of all journals.
use Rattle.std.specs.Prelude.{◌≡◌, ◌↔◌, ℕ, ◌+◌, ◌*◌, ◌/◌, ◌<◌, IsTrue, nat_le, cond, min, List, length, take, sum_by, slice_get, Some}
use Rattle.buck_apt_instruction.specs.Instruction.{InstructionParts}
use Rattle.buck_book_postings.specs.declared.posting.Posting.{Posting}
use Rattle.buck_book_postings.specs.Posting.{ends_of, targets_of}
use Rattle.buck_book_postings.specs.Counts.{AreClassCounts}
use Rattle.buck_book_postings.specs.History.{prices_at}
use Rattle.buck_book_journal.specs.Journal.{JournalParts}
use Rattle.buck_page_figures.specs.Degrees.{AreDegreesBy}
use Rattle.buck_page_figures.specs.Journals.{StandsAt, entries_in, postings_of, sheets_in}
use Rattle.buck_page_figures.specs.declared.degrees.Degrees.{Degrees}
use Rattle.buck_page_figures.specs.Figures.{demands_in}
use Rattle.buck_page_figures.specs.declared.figures.Point.{Point}

-- how many of n postings came before the k-th point, from 1: there are at most 200 points, and the last one is at the
-- end
abbrev pub point_after : ℕ → ℕ → ℕ
point_after n k = cond (nat_le n 200) k (k * n / 200)

-- the degrees of each assortment by the targets in force after some postings of a journal, given what was cut
pub record AreDegrees (i : InstructionParts) (ps cut : List Posting) (degrees : List Degrees) : Type 0 where
  pub counts : List ℕ
  pub are_counts : AreClassCounts i cut counts
  pub one_each : length degrees ≡ length i.assortments
  pub each : (a : ℕ) (d : Degrees)
      → slice_get degrees a ≡ Some d
      → AreDegreesBy i (targets_of i ps) counts a d

-- the point at a place among the postings of all journals, and the place of the point before it; so many postings were
-- passed of the journal in which the last of them stands
pub record IsPoint (i : InstructionParts) (js : List JournalParts) (us : List Posting) (before at : ℕ) (p : Point)
    : Type 0 where
  pub after : p.after ≡ at
  pub here : ℕ
  pub begun : 0 < here
  pub stands : StandsAt js p.journal here at
  pub version : p.version ≡ ends_of i (take here (entries_in (slice_get js p.journal)))
  pub prices : p.prices.now ≡ prices_at (sheets_in (slice_get js p.journal)) p.version
  pub degrees : AreDegrees i (take here (entries_in (slice_get js p.journal))) (take at (postings_of js))
      p.degrees.items
  pub unsteered : AreDegrees i (take here (entries_in (slice_get js p.journal))) (take at us) p.unsteered.items
  pub demand : IsTrue p.demand
      ↔ (sum_by demands_in (take before (postings_of js)) < sum_by demands_in (take at (postings_of js)))

-- all points of the curves
pub record ArePoints (i : InstructionParts) (js : List JournalParts) (us : List Posting) (points : List Point)
    : Type 0 where
  pub number : length points ≡ min (length (postings_of js)) 200
  pub each : (k : ℕ) (p : Point)
      → slice_get points k ≡ Some p
      → IsPoint i js us (point_after (length (postings_of js)) k) (point_after (length (postings_of js)) (k + 1)) p
