-- What a run answers that shows a journal.
use Rattle.std.specs.Prelude.{◌⊎◌, ℕ, List, Option, Result, Ok, Err}
use Rattle.std.specs.Io.KnownBytes.{Appends, Keeps}
use Rattle.std.specs.Str.{IsUtf8}
use Rattle.buck_apt_instruction.specs.Instruction.{InstructionParts}
use Rattle.buck_book_postings.specs.History.{HistoryParts, IsLawful}
use Rattle.buck_book_journal.specs.Journal.{JournalParts, history_of}
use Rattle.buck_book_journal.specs.Reading.{journal_of}
use Rattle.buck_book_replay.specs.Replay.{IsFirstFault}
use Rattle.buck_book_journal.specs.declared.replay_fault.ReplayFault.{ReplayFault}
use Rattle.buckfleet_engine_files.specs.declared.fault.EngineFault.{EngineFault}
use Rattle.buckfleet_engine_files.specs.declared.fault.EngineFault.TheVariants.{Write, Replay}
use Rattle.buckfleet_engine_files.specs.Reading.{ReadsApt, Says}
use Rattle.buckfleet_engine_files.specs.Written.{AppendsSome}
use Rattle.buckfleet_engine_files.specs.Checking.{IsReadFault}

-- an instruction file, which is read so, and a journal's file have a history of which this holds
pub record HaveHistory (reads : ReadsApt) (Holds : HistoryParts → Type 0) (apt journal : Option (List ℕ)) : Type 0 where
  pub instruction : InstructionParts
  pub read : JournalParts
  pub apt_says : Says reads apt (Ok instruction)
  pub journal_says : Says journal_of journal (Ok read)
  pub holds : Holds (history_of instruction read)

-- what is there of the output after a run that shows a journal: what was written of a lawful one, what is left of one
-- that isn't lawful, and else nothing more than before; or, if the output can't be written, some first bytes of what
-- the history shows, of which there is something to write
abbrev pub ShowsAs : ReadsApt → (HistoryParts → Type 0) → Type 0 → Type 0 → Option (List ℕ) → Option (List ℕ)
    → Option (List ℕ) → Option (List ℕ) → Result (Unit {0}) EngineFault → Type 0
ShowsAs reads HasText Shown Left apt journal old new (Ok _) = HaveHistory reads IsLawful apt journal × Shown
ShowsAs reads HasText Shown Left apt journal old new (Err Write) =
    HaveHistory reads HasText apt journal × ((text : List ℕ) × AppendsSome old new text)
ShowsAs reads HasText Shown Left apt journal old new (Err (Replay why)) =
    HaveHistory reads (λ h. IsFirstFault h why) apt journal × Left
ShowsAs reads HasText Shown Left apt journal old new (Err fault) = IsReadFault apt journal fault × Keeps old new

-- a history has a page if it is lawful, and if it has a first fault
abbrev pub HasPage : HistoryParts → Type 0
HasPage h = IsLawful h ⊎ ((why : ReplayFault) × IsFirstFault h why)

-- a page was written, which is UTF-8, and all of it
abbrev pub AppendsPage : Option (List ℕ) → Option (List ℕ) → Type 0
AppendsPage old new = (text : List ℕ) × IsUtf8 text × Appends old new text

-- a table was written, and all of it
abbrev pub AppendsTable : Option (List ℕ) → Option (List ℕ) → Type 0
AppendsTable old new = (text : List ℕ) × Appends old new text

-- the page of a lawful journal is written, and else the page of the journal's first fault
abbrev pub ShowsPage : ReadsApt → Option (List ℕ) → Option (List ℕ) → Option (List ℕ) → Option (List ℕ)
    → Result (Unit {0}) EngineFault → Type 0
ShowsPage reads apt journal old new outcome =
    ShowsAs reads HasPage (AppendsPage old new) (AppendsPage old new) apt journal old new outcome

-- the table of a lawful journal is written, and else nothing
abbrev pub ShowsTable : ReadsApt → Option (List ℕ) → Option (List ℕ) → Option (List ℕ) → Option (List ℕ)
    → Result (Unit {0}) EngineFault → Type 0
ShowsTable reads apt journal old new outcome =
    ShowsAs reads IsLawful (AppendsTable old new) (Keeps old new) apt journal old new outcome
