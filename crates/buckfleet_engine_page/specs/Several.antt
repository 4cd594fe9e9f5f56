-- What is shown of several journals.
use Rattle.std.specs.Prelude.{◌≡◌, ◌≢◌, ◌⊎◌, ◌+◌, ℕ, List, length, Option, Result, Ok, Err}
use Rattle.std.specs.Io.KnownBytes.{Keeps}
use Rattle.buck_apt_instruction.specs.Instruction.{InstructionParts}
use Rattle.buck_book_journal.specs.Journal.{JournalParts}
use Rattle.buck_book_journal.specs.declared.replay_fault.ReplayFault.{ReplayFault}
use Rattle.buckfleet_engine_files.specs.declared.fault.EngineFault.{EngineFault}
use Rattle.buckfleet_engine_files.specs.declared.fault.EngineFault.TheVariants.{Write, Replay, ReplayOf}
use Rattle.buckfleet_engine_files.specs.Reading.{ReadsApt}
use Rattle.buckfleet_engine_page.specs.Viewing.{AppendsPage, AppendsTable}
use Rattle.buckfleet_engine_files.specs.Written.{AppendsSome}
use Rattle.buckfleet_engine_files.specs.Several.{IsSeveralFault, HaveSeveral, AreLawful, IsFirstUnlawful}

-- there is a page of lawful journals, and of the first that isn't
abbrev pub HavePage : InstructionParts → List JournalParts → Type 0
HavePage i js = AreLawful i js ⊎ ((place : ℕ) × (why : ReplayFault) × IsFirstUnlawful i js place why)

-- what is there of the output after a run that shows journals: what was written of lawful ones, what is left if one
-- isn't lawful, and else nothing more than before; or, if the output can't be written, some first bytes of what
-- there is to write
abbrev pub ShowsSeveral : ReadsApt → (InstructionParts → List JournalParts → Type 0) → Type 0 → Type 0
    → Option (List ℕ) → List (Option (List ℕ)) → Option (List ℕ) → Option (List ℕ)
    → Result (Unit {0}) EngineFault → Type 0
ShowsSeveral reads HasText Shown Left apt files old new (Ok _) = HaveSeveral reads AreLawful apt files × Shown
ShowsSeveral reads HasText Shown Left apt files old new (Err Write) =
    HaveSeveral reads HasText apt files × ((text : List ℕ) × AppendsSome old new text)
ShowsSeveral reads HasText Shown Left apt files old new (Err (Replay why)) =
    (length files ≡ 1) × HaveSeveral reads (λ i js. IsFirstUnlawful i js 0 why) apt files × Left
ShowsSeveral reads HasText Shown Left apt files old new (Err (ReplayOf journal why)) =
    (length files ≢ 1)
    × HaveSeveral reads (λ i js. (place : ℕ) × (journal ≡ place + 1) × IsFirstUnlawful i js place why) apt files
    × Left
ShowsSeveral reads HasText Shown Left apt files old new (Err fault) = IsSeveralFault apt files fault × Keeps old new

-- the page of lawful journals is written, and else the page of the first fault of the first that isn't
abbrev pub ShowsPages : ReadsApt → Option (List ℕ) → List (Option (List ℕ)) → Option (List ℕ) → Option (List ℕ)
    → Result (Unit {0}) EngineFault → Type 0
ShowsPages reads apt files old new outcome =
    ShowsSeveral reads HavePage (AppendsPage old new) (AppendsPage old new) apt files old new outcome

-- the table of lawful journals is written, and else nothing
abbrev pub ShowsTables : ReadsApt → Option (List ℕ) → List (Option (List ℕ)) → Option (List ℕ) → Option (List ℕ)
    → Result (Unit {0}) EngineFault → Type 0
ShowsTables reads apt files old new outcome =
    ShowsSeveral reads AreLawful (AppendsTable old new) (Keeps old new) apt files old new outcome
