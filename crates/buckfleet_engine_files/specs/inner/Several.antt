-- Several journals as they are read, and how what they show is written.
use Rattle.std.specs.Prelude.{◌≤◌, List, All, length}
use Rattle.buck_book_postings.specs.declared.posting.TheConstants.{MOST_POSTINGS}
use Rattle.buck_book_journal.specs.Journal.{JournalParts}

-- no journal has more postings than one may have
abbrev pub AreEachFew : List JournalParts → Type 0
AreEachFew js = All (λ j. length j.entries ≤ MOST_POSTINGS) js
