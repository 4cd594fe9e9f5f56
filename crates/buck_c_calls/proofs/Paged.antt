-- How a run that shows a journal ends.
use Rattle.std.proofs.Common.{◌≢◌, ℕ, List, [], Option, Some, Err, refl, sym, subst, inl, inr}
use Rattle.std.specs.Io.KnownBytes.{Appends}
use Rattle.std.specs.Str.{IsUtf8}
use Rattle.buck_apt.specs.Apt.{apt_of}
use Rattle.buck_book_postings.specs.History.{HistoryParts}
use Rattle.buck_book_journal.specs.declared.replay_fault.ReplayFault.{ReplayFault}
use Rattle.buckfleet_engine_files.specs.declared.fault.EngineFault.{EngineFault}
use Rattle.buckfleet_engine_files.specs.declared.fault.EngineFault.TheVariants.{Read, Write, Apt, Stm, Journal, JournalOf, Replay, ReplayOf, Check, Seats, Full, Memory, Close}
use Rattle.buckfleet_engine_files.specs.Checking.{IsReadFault}
use Rattle.buckfleet_engine_page.specs.Viewing.{ShowsAs}
use Rattle.buck_c_calls.specs.Pages.{IsTableFault}

-- what is neither a failed write nor a fault of the journal's postings is the first file's that has one
pub read_fault : (HasText : HistoryParts → Type 0) (Shown Left : Type 0) (apt journal old new : Option (List ℕ))
    (fault : EngineFault)
    → ShowsAs apt_of HasText Shown Left apt journal old new (Err fault)
    → fault ≢ Write → ((why : ReplayFault) → fault ≢ Replay why) → IsReadFault apt journal fault
read_fault HasText Shown Left apt journal old new (Read n) s w r = s.0
read_fault HasText Shown Left apt journal old new Write s w r = absurd (w refl)
read_fault HasText Shown Left apt journal old new (Apt x) s w r = s.0
read_fault HasText Shown Left apt journal old new (Stm n x) s w r = s.0
read_fault HasText Shown Left apt journal old new (Journal x) s w r = s.0
read_fault HasText Shown Left apt journal old new (JournalOf n x) s w r = s.0
read_fault HasText Shown Left apt journal old new (Replay why) s w r = absurd (r why refl)
read_fault HasText Shown Left apt journal old new (ReplayOf n x) s w r = s.0
read_fault HasText Shown Left apt journal old new (Check x) s w r = s.0
read_fault HasText Shown Left apt journal old new Seats s w r = s.0
read_fault HasText Shown Left apt journal old new Full s w r = s.0
read_fault HasText Shown Left apt journal old new Memory s w r = s.0
read_fault HasText Shown Left apt journal old new (Close x) s w r = s.0

-- the same, if a fault of the postings is reported too
pub table_fault : (HasText : HistoryParts → Type 0) (Shown Left : Type 0) (apt journal old new : Option (List ℕ))
    (fault : EngineFault)
    → ShowsAs apt_of HasText Shown Left apt journal old new (Err fault) → fault ≢ Write → IsTableFault apt journal fault
table_fault HasText Shown Left apt journal old new (Read n) s w = inl s.0
table_fault HasText Shown Left apt journal old new Write s w = absurd (w refl)
table_fault HasText Shown Left apt journal old new (Apt x) s w = inl s.0
table_fault HasText Shown Left apt journal old new (Stm n x) s w = inl s.0
table_fault HasText Shown Left apt journal old new (Journal x) s w = inl s.0
table_fault HasText Shown Left apt journal old new (JournalOf n x) s w = inl s.0
table_fault HasText Shown Left apt journal old new (Replay why) s w = inr (why, refl, s.0)
table_fault HasText Shown Left apt journal old new (ReplayOf n x) s w = inl s.0
table_fault HasText Shown Left apt journal old new (Check x) s w = inl s.0
table_fault HasText Shown Left apt journal old new Seats s w = inl s.0
table_fault HasText Shown Left apt journal old new Full s w = inl s.0
table_fault HasText Shown Left apt journal old new Memory s w = inl s.0
table_fault HasText Shown Left apt journal old new (Close x) s w = inl s.0

-- a page that was appended to nothing is all that is there
pub a_page : (new text : List ℕ) → IsUtf8 text → Appends (Some []) (Some new) text → IsUtf8 new
a_page new text is appends = subst (λ xs. IsUtf8 xs) (sym appends) is
