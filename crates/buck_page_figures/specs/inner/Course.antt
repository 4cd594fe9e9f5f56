-- A way through the postings of some journals.
use Rattle.std.specs.Prelude.{◌≡◌, ℕ, ◌+◌, List, ◌++◌, length, take, slice_get, Some}
use Rattle.buck_apt_instruction.specs.Instruction.{InstructionParts, classes}
use Rattle.buck_book_postings.specs.declared.posting.Posting.{Posting}
use Rattle.buck_book_postings.specs.Posting.{targets_of}
use Rattle.buck_book_postings.specs.Walk.{walk_of, IsCountable}
use Rattle.buck_book_journal.specs.Journal.{JournalParts}
use Rattle.buck_page_figures.specs.Journals.{StandsAt, entries_in, postings_of}
use Rattle.buck_page_figures.specs.inner.Adding.{IsCuttable}
use Rattle.buck_page_figures.specs.inner.Account.{IsAccount}
use Rattle.buck_page_figures.specs.declared.course.Course.{Course}

-- each posting can be passed
abbrev pub ArePassable : InstructionParts → List Posting → Type 0
ArePassable i ps = (k : ℕ) (x : Posting) → slice_get ps k ≡ Some x → IsCuttable i x × IsCountable i x

-- a way that has come to a place, if the postings before it are these unsteered
pub record IsCourse (i : InstructionParts) (js : List JournalParts) (at : ℕ) (us : List Posting) (c : Course)
    : Type 0 where
  pub walk : c.walk ≡ walk_of i (entries_in (slice_get js c.journal)) c.walk.at
  pub stands : StandsAt js c.journal c.walk.at at
  pub before : c.before ≡ length (postings_of (take c.journal js))
  pub account : IsAccount i (take at (postings_of js)) us c.account
  pub targets : c.targets.value.items ≡ targets_of i (take c.walk.at (entries_in (slice_get js c.journal)))
  pub wanted : length c.targets.value.items ≡ classes i

-- the postings that were passed are some unsteered
pub record HasCourse (i : InstructionParts) (js : List JournalParts) (c : Course) : Type 0 where
  pub unsteered : List Posting
  pub course : IsCourse i js (c.before + c.walk.at) unsteered c

-- a way goes on to a place, with some more unsteered
pub record IsMore (i : InstructionParts) (js : List JournalParts) (at : ℕ) (us : List Posting) (c : Course)
    : Type 0 where
  pub more : List Posting
  pub course : IsCourse i js at (us ++ more) c

-- whatever the postings before it are unsteered
abbrev pub IsFurther : InstructionParts → List JournalParts → ℕ → Course → ℕ → Course → Type 0
IsFurther i js from c to d = (us : List Posting) → IsCourse i js from us c → IsMore i js to us d

-- a way that stands at the same place, over the ends of journals
abbrev pub IsOver : InstructionParts → List JournalParts → Course → Course → Type 0
IsOver i js c d = (at : ℕ) (us : List Posting) → IsCourse i js at us c → IsCourse i js at us d
