-- Journals of cuts alone, in which no item stands at 982 1: how their items are read in words that know of no demand.
-- Only the law that both read the same leads here.
use Rattle.std.specs.Prelude.{◌≡◌, ℕ, ◌+◌, false, List, [], ◌∷◌, drop, slice_get, Option, Some, None, Result, Ok, if◌then◌else◌}
use Rattle.buck_record.specs.Item.{ItemParts}
use Rattle.buck_record.specs.checking.Table.{is_at}
use Rattle.buck_record.specs.checking.Check.{◌>>=◌, check}
use Rattle.buck_record.specs.checking.Rules.{slot}
use Rattle.buck_book_postings.specs.declared.posting.Posting.{Posting}
use Rattle.buck_book_postings.specs.declared.posting.Posting.TheVariants.{Cut}
use Rattle.buck_book_journal.specs.declared.journal_fault.JournalFault.{JournalFault}
use Rattle.buck_book_journal.specs.declared.journal_fault.JournalFault.TheVariants.{NotJournal, Shape}
use Rattle.buck_book_journal.specs.Journal.{JournalParts}
use Rattle.buck_book_journal.specs.Reading.{sheet_at, call_at, stem_at, item_at, logs_form, worth_at, entry_of, says_journal}

-- no item begins a demand
abbrev pub HasNoDemand : List ItemParts → Type 0
HasNoDemand items = (k : ℕ) (x : ItemParts) → slice_get items k ≡ Some x → is_at (slot 982 1) x ≡ false

-- after a cut comes the next one, or the end
abbrev pub follows : ℕ → Option ItemParts → Result (Unit {0}) JournalFault
follows place None = Ok tt
follows place (Some item) = check (is_at (slot 981 1) item) (Shape place)

unfoldable pub cut_at : List ItemParts → ℕ → ℕ → Result Posting JournalFault
cut_at items k before = do
  call ← call_at (slot 981 1) before (k + 1) (slice_get items 0)
  stem ← stem_at items k
  logs ← item_at (slot 981 5) logs_form (k + 5) (slice_get items 4)
  worth ← worth_at (k + 6) (slice_get items 5)
  _ ← follows (k + 7) (slice_get items 6)
  Ok (Cut (entry_of call stem logs worth))

-- the sheets of the items behind k others: one for each item up to the first that begins a cut
unfoldable pub sheets_from : ℕ → List ItemParts → Result (List (List ℕ)) JournalFault
sheets_from k [] = Ok []
sheets_from k (item ∷ more) =
    if is_at (slot 981 1) item then Ok []
    else (sheet_at (k + 1) (Some item) >>= λ prices. sheets_from (k + 1) more >>= λ sheets. Ok (prices ∷ sheets))

-- the cuts of the items behind k others, so many coming before: one for each item that begins a cut
unfoldable pub cuts_from : ℕ → ℕ → List ItemParts → Result (List Posting) JournalFault
cuts_from k before [] = Ok []
cuts_from k before (item ∷ more) =
    if is_at (slot 981 1) item
    then (cut_at (item ∷ more) k before >>= λ cut. cuts_from (k + 1) (before + 1) more >>= λ rest. Ok (cut ∷ rest))
    else cuts_from (k + 1) before more

unfoldable pub journal_in : List ItemParts → Result JournalParts JournalFault
journal_in items = do
  _ ← check (says_journal items) NotJournal
  sheets ← sheets_from 1 (drop 1 items)
  cuts ← cuts_from 0 0 items
  Ok (record { sheets = sheets; entries = cuts })
