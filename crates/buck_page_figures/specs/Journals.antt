-- Several journals of one instruction: each begins with its base prices and its targets, and what is cut goes on.
use Rattle.std.specs.Prelude.{◌≡◌, ℕ, ◌+◌, ◌<◌, ◌≤◌, List, [], length, take, slice_get, Option, Some, None}
use Rattle.buck_book_postings.specs.declared.posting.Posting.{Posting}
use Rattle.buck_book_journal.specs.Journal.{JournalParts}
pub use Rattle.buck_book_journal.specs.Several.{postings_of}

-- the postings of a journal, and its sheets; none if there is no journal
abbrev pub entries_in : Option JournalParts → List Posting
entries_in None = []
entries_in (Some j) = j.entries

abbrev pub sheets_in : Option JournalParts → List (List ℕ)
sheets_in None = []
sheets_in (Some j) = j.sheets

-- so many postings were passed, through all journals, if so many were passed of the journal at a place
abbrev pub StandsAt : List JournalParts → ℕ → ℕ → ℕ → Type 0
StandsAt js journal here at =
    (journal < length js)
    × (here ≤ length (entries_in (slice_get js journal)))
    × (length (postings_of (take journal js)) + here ≡ at)
