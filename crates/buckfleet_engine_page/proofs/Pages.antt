-- What is written of a journal that is shown.
use Rattle.std.proofs.Common.{◌≡◌, ℕ, inl, inr, List, Option, Result, Ok, Err, refl, sym, subst}
use Rattle.std.specs.Result.{IsErrAnd}
use Rattle.std.specs.Str.{IsUtf8}
use Rattle.std.specs.Io.KnownBytes.{Keeps}
use Rattle.std.proofs.KnownBytes.{Keeps-refl}
use Rattle.buck_apt_instruction.specs.Instruction.{InstructionParts}
use Rattle.buck_book_postings.specs.History.{HistoryParts, IsLawful}
use Rattle.buck_book_journal.specs.Journal.{JournalParts, history_of}
use Rattle.buck_book_journal.specs.Reading.{journal_of}
use Rattle.buck_book_replay.specs.Replay.{IsFirstFault}
use Rattle.buck_book_journal.specs.declared.replay_fault.ReplayFault.{ReplayFault}
use Rattle.buckfleet_engine_files.specs.declared.fault.EngineFault.{EngineFault}
use Rattle.buckfleet_engine_files.specs.declared.fault.EngineFault.TheVariants.{Memory}
use Rattle.buckfleet_engine_files.specs.Reading.{ReadsApt, Says}
use Rattle.buckfleet_engine_files.specs.Checking.{IsUnlawful, IsReadFault}
use Rattle.buckfleet_engine_page.specs.Viewing.{AppendsPage, AppendsTable, HasPage, ShowsAs}
use Rattle.buckfleet_engine_files.specs.Written.{IsWritten}
use Rattle.buckfleet_engine_page.specs.inner.View.{ShowsFault, ShowsHistory, WritesAs}

-- a text that is UTF-8 is a page
pub page_written : (old new : Option (List ℕ)) (text : List ℕ) (r : Result (Unit {0}) EngineFault) → IsUtf8 text
    → IsWritten old new text r
    → WritesAs (AppendsPage old new) old new r
page_written old new text (Ok u) utf8 written = (text, utf8, written)
page_written old new text (Err fault) utf8 (is, some) = inr (is, (text, some))

-- any text is a table
pub table_written : (old new : Option (List ℕ)) (text : List ℕ) (r : Result (Unit {0}) EngineFault)
    → IsWritten old new text r
    → WritesAs (AppendsTable old new) old new r
table_written old new text (Ok u) written = (text, written)
table_written old new text (Err fault) (is, some) = inr (is, (text, some))

-- the page and the table of a lawful history
pub page_shown : (Shown Left : Type 0) (h : HistoryParts) (old new : Option (List ℕ))
    (r : Result (Unit {0}) EngineFault) → IsLawful h
    → WritesAs Shown old new r → ShowsHistory HasPage Shown Left h old new r
page_shown Shown Left h old new (Ok u) lawful shown = (lawful, shown)
page_shown Shown Left h old new (Err fault) lawful fails = inl (fails, λ w. inl lawful)

pub table_shown : (Shown Left : Type 0) (h : HistoryParts) (old new : Option (List ℕ))
    (r : Result (Unit {0}) EngineFault) → IsLawful h
    → WritesAs Shown old new r → ShowsHistory IsLawful Shown Left h old new r
table_shown Shown Left h old new (Ok u) lawful shown = (lawful, shown)
table_shown Shown Left h old new (Err fault) lawful fails = inl (fails, λ w. lawful)

-- what is left of a history's first fault
pub fault_shown : (Shown Left : Type 0) (h : HistoryParts) (old new : Option (List ℕ)) (why : ReplayFault)
    (fault : EngineFault) → IsFirstFault h why
    → ShowsFault Left why old new fault → ShowsHistory HasPage Shown Left h old new (Err fault)
fault_shown Shown Left h old new why fault first (inl (is, left)) = inr (why, is, first, left)
fault_shown Shown Left h old new why fault first (inr fails) = inl (fails, λ w. inr (why, first))

-- memory ran out before there was a page
pub no_memory : (HasText : HistoryParts → Type 0) (Shown Left : Type 0) (h : HistoryParts) (old : Option (List ℕ))
    → ShowsHistory HasText Shown Left h old old (Err Memory)
no_memory HasText Shown Left h old = inl (inl (refl, Keeps-refl old), λ w. absurd (cc w))

kept : (reads : ReadsApt) (HasText : HistoryParts → Type 0) (Shown Left : Type 0)
    (apt journal old : Option (List ℕ)) (fault : EngineFault)
    → IsReadFault apt journal fault
    → ShowsAs reads HasText Shown Left apt journal old old (Err fault)
kept reads HasText Shown Left apt journal old fault (inl (inl is)) =
    subst (λ (f : EngineFault). ShowsAs reads HasText Shown Left apt journal old old (Err f)) (sym is)
    (inl (inl refl), Keeps-refl old)
kept reads HasText Shown Left apt journal old fault (inl (inr (inl is))) =
    subst (λ (f : EngineFault). ShowsAs reads HasText Shown Left apt journal old old (Err f)) (sym is)
    (inl (inr (inl refl)), Keeps-refl old)
kept reads HasText Shown Left apt journal old fault (inl (inr (inr (why, is, says)))) =
    subst (λ (f : EngineFault). ShowsAs reads HasText Shown Left apt journal old old (Err f)) (sym is)
    (inl (inr (inr (why, refl, says))), Keeps-refl old)
kept reads HasText Shown Left apt journal old fault (inr (ok, inl is)) =
    subst (λ (f : EngineFault). ShowsAs reads HasText Shown Left apt journal old old (Err f)) (sym is)
    (inr (ok, inl refl), Keeps-refl old)
kept reads HasText Shown Left apt journal old fault (inr (ok, inr (inl is))) =
    subst (λ (f : EngineFault). ShowsAs reads HasText Shown Left apt journal old old (Err f)) (sym is)
    (inr (ok, inr (inl refl)), Keeps-refl old)
kept reads HasText Shown Left apt journal old fault (inr (ok, inr (inr (why, is, says)))) =
    subst (λ (f : EngineFault). ShowsAs reads HasText Shown Left apt journal old old (Err f)) (sym is)
    (inr (ok, inr (inr (why, refl, says))), Keeps-refl old)

-- nothing is written if a file has a fault
pub nothing_shown : (reads : ReadsApt) (HasText : HistoryParts → Type 0) (Shown Left : Type 0)
    (apt journal old : Option (List ℕ)) (fault : EngineFault)
    (r : Result (Unit {0}) EngineFault)
    → IsErrAnd r (λ x. x ≡ fault) → IsReadFault apt journal fault → ShowsAs reads HasText Shown Left apt journal old old r
nothing_shown reads HasText Shown Left apt journal old fault (Ok u) h a = absurd h
nothing_shown reads HasText Shown Left apt journal old fault (Err x) h a =
    subst (λ (f : EngineFault). ShowsAs reads HasText Shown Left apt journal old old (Err f)) (sym h)
    (kept reads HasText Shown Left apt journal old fault a)

-- what is shown of the history that the files have
pub history_shown : (reads : ReadsApt) (HasText : HistoryParts → Type 0) (Shown Left : Type 0)
    (apt journal old new : Option (List ℕ))
    (i : InstructionParts) (j : JournalParts) (r : Result (Unit {0}) EngineFault)
    → Says reads apt (Ok i) → Says journal_of journal (Ok j) → ShowsHistory HasText Shown Left (history_of i j) old new r
    → ShowsAs reads HasText Shown Left apt journal old new r
history_shown reads HasText Shown Left apt journal old new i j (Ok u) a b (lawful, shown) =
    (record { instruction = i; read = j; apt_says = a; journal_says = b; holds = lawful }, shown)
history_shown reads HasText Shown Left apt journal old new i j (Err fault) a b (inl (inl (memory, same), none)) =
    subst (λ (f : EngineFault). ShowsAs reads HasText Shown Left apt journal old new (Err f)) (sym memory)
    (inl (inr (inl refl)), same)
history_shown reads HasText Shown Left apt journal old new i j (Err fault) a b (inl (inr (write, some), has)) =
    subst (λ (f : EngineFault). ShowsAs reads HasText Shown Left apt journal old new (Err f)) (sym write)
    (record { instruction = i; read = j; apt_says = a; journal_says = b; holds = has write }, some)
history_shown reads HasText Shown Left apt journal old new i j (Err fault) a b (inr (why, is, first, left)) =
    subst (λ (f : EngineFault). ShowsAs reads HasText Shown Left apt journal old new (Err f)) (sym is)
    (record { instruction = i; read = j; apt_says = a; journal_says = b; holds = first }, left)

-- nothing is left of it
pub nothing_left : (Shown : Type 0) (h : HistoryParts) (old : Option (List ℕ)) (fault : EngineFault)
    → IsUnlawful h fault
    → ShowsHistory IsLawful Shown (Keeps old old) h old old (Err fault)
nothing_left Shown h old fault (inl memory) = inl (inl (memory, Keeps-refl old), λ w. absurd (cc (memory, w)))
nothing_left Shown h old fault (inr (why, is, first)) = inr (why, is, first, Keeps-refl old)

pub ruleset histories = (page_shown, fault_shown, no_memory)

pub ruleset lists = (table_shown, nothing_left)

pub ruleset shown = (nothing_shown, history_shown)
