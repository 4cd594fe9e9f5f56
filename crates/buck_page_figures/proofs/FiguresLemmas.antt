-- The figures of some journals, from the way past all of their postings.
use Rattle.std.proofs.Common.{◌≡◌, ◌+◌, ◌-◌, List, length, take, subst, ap, ◌∙◌, arith}
use Rattle.std.specs.Prelude.{min, slice_get, Some}
use Rattle.std.proofs.Math.Seq.{take-length}
use Rattle.buck_apt_instruction.specs.Instruction.{InstructionParts}
use Rattle.buck_book_postings.specs.declared.posting.Posting.{Posting}
use Rattle.buck_book_postings.specs.Posting.{ends_of, targets_of}
use Rattle.buck_book_postings.specs.History.{prices_at}
use Rattle.buck_book_postings.specs.Walk.{WalkParts, passed}
use Rattle.buck_book_journal.specs.Journal.{JournalParts}
use Rattle.buck_page_figures.specs.Journals.{entries_in, postings_of}
use Rattle.buck_page_figures.specs.Shown.{AreFigures}
use Rattle.buck_page_figures.specs.inner.Account.{IsAccount}
use Rattle.buck_page_figures.specs.inner.Course.{IsCourse}
use Rattle.buck_page_figures.specs.inner.Making.{AreCurves}
use Rattle.buck_page_figures.specs.declared.course.Course.{Course}
use Rattle.buck_page_figures.specs.declared.figures.Figures.{Figures}
use Rattle.buck_page_figures.specs.declared.figures.Point.{Point}
use Rattle.buck_page_figures.proofs.CourseLemmas.{last_point}
use Rattle.buck_page_figures.proofs.JournalLemmas.{whole_all}

-- a way past all postings
pub course_end : (i : InstructionParts) (js : List JournalParts) (c : Course) (curve : List Point)
    → (curves : AreCurves i js (min (length (postings_of js)) 200) c curve)
    → IsCourse i js (length (postings_of js)) curves.unsteered c
course_end i js c curve curves =
    subst (λ at. IsCourse i js at curves.unsteered c) (last_point (length (postings_of js))) curves.course

pub at_end : (i : InstructionParts) (js : List JournalParts) (us : List Posting) (c : Course)
    → IsCourse i js (length (postings_of js)) us c → IsAccount i (postings_of js) us c.account
at_end i js us c course = subst (λ qs. IsAccount i qs us c.account) (take-length (postings_of js)) course.account

-- it has passed all postings of the last journal
passed_last : (i : InstructionParts) (js : List JournalParts) (us : List Posting) (c : Course) (last : JournalParts)
    → IsCourse i js (length (postings_of js)) us c → c.journal + 1 ≡ length js → slice_get js c.journal ≡ Some last
    → take c.walk.at (entries_in (slice_get js c.journal)) ≡ last.entries
passed_last i js us c last course end there =
    let here : entries_in (slice_get js c.journal) ≡ last.entries = ap entries_in there in
    let whole : c.walk.at ≡ length last.entries =
    omega (arith, course.stands, whole_all js c.journal end, ap length here) in
    ap (take c.walk.at) here ∙ ap (λ n. take n last.entries) whole ∙ take-length last.entries

-- the version in force there
pub version_there : (i : InstructionParts) (js : List JournalParts) (us : List Posting) (c : Course) (last : JournalParts)
    → IsCourse i js (length (postings_of js)) us c → c.journal + 1 ≡ length js → slice_get js c.journal ≡ Some last
    → ends_of c.walk.instruction (passed c.walk) ≡ ends_of i last.entries
version_there i js us c last course end there =
    ap (λ (w : WalkParts). ends_of w.instruction (passed w)) course.walk
    ∙ ap (ends_of i) (passed_last i js us c last course end there)

pub figures_are : (i : InstructionParts) (js : List JournalParts) (c : Course) (curve : List Point) (f : Figures)
    (last : JournalParts)
    → AreCurves i js (min (length (postings_of js)) 200) c curve
    → c.journal + 1 ≡ length js → slice_get js c.journal ≡ Some last
    → f.instruction.now ≡ i → f.journals.now ≡ js → f.postings ≡ length (postings_of js)
    → f.counts.items ≡ c.account.tally.counts.items → f.unsteered.items ≡ c.account.tally.unsteered.items
    → f.targets.value.items ≡ c.targets.value.items → f.prices.now ≡ prices_at last.sheets (ends_of i last.entries)
    → f.total ≡ c.account.tally.total → f.harvesters ≡ c.account.tally.owns
    → f.assortments.items ≡ c.account.parts.items
    → f.unsteered_assortments.items ≡ c.account.unsteered_parts.items
    → f.points.items ≡ curve → f.longest ≡ c.account.longest.at → f.dearest ≡ c.account.dearest.at
    → AreFigures i js f
figures_are i js c curve f last curves end there instruction journals postings counts unsteered targets prices total owns
    parts unsteered_parts points longest dearest =
    let us = curves.unsteered in
    let course = course_end i js c curve curves in
    let account = at_end i js us c course in
    let place : length js - 1 ≡ c.journal = omega (arith, end) in
    record {
      instruction = instruction;
      journals = journals;
      postings = postings;
      without = us;
      are_unsteered = account.are_unsteered;
      counts = rw counts account.tally.counts;
      unsteered = rw unsteered account.tally.unsteered;
      last = last;
      is_last = ap (slice_get js) place ∙ there;
      targets = targets ∙ course.targets ∙ ap (targets_of i) (passed_last i js us c last course end there);
      prices = prices;
      total = rw total account.tally.total;
      harvesters = rw owns account.tally.owns;
      assortments = rw parts account.parts;
      unsteered_assortments = rw unsteered_parts account.unsteered_parts;
      points = rw points (record { number = curves.so_many; each = curves.points });
      longest = rw longest account.longest.first;
      dearest = rw dearest account.dearest.first;
    }
