-- Several journals of one instruction.
use Rattle.std.specs.Prelude.{List, [], ◌∷◌, ◌++◌}
use Rattle.buck_book_postings.specs.declared.posting.Posting.{Posting}
use Rattle.buck_book_journal.specs.Journal.{JournalParts}

-- all postings, journal by journal
abbrev pub postings_of : List JournalParts → List Posting
postings_of [] = []
postings_of (j ∷ []) = j.entries
postings_of (j ∷ k ∷ more) = j.entries ++ postings_of (k ∷ more)
