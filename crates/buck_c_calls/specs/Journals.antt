-- The journal of a kept book, as a caller in another language sees it.
use Rattle.std.specs.Prelude.{◌≡◌, ◌⊎◌, ℕ, List}
use Rattle.buckfleet_engine_files.specs.Faults.{memory_line}
use Rattle.buck_book_journal.specs.Written.{journal_text}
use Rattle.buck_c_session.specs.Kept.{KeptParts}
use Rattle.buck_c_calls.specs.Books.{memory}

-- its text, or the line of memory that ran out
abbrev pub HasJournal : KeptParts → List ℕ → ℕ → Type 0
HasJournal kept items status =
    ((items ≡ journal_text kept.history.sheets kept.history.postings) × (status ≡ 0))
    ⊎ ((items ≡ memory_line) × (status ≡ memory))
