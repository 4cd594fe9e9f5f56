-- How what a journal shows is written.
use Rattle.std.specs.Prelude.{◌≡◌, ◌⊎◌, ℕ, List, Option, Result, Ok, Err}
use Rattle.std.specs.Io.KnownBytes.{Keeps}
use Rattle.buck_book_postings.specs.History.{HistoryParts, IsLawful}
use Rattle.buck_book_replay.specs.Replay.{IsFirstFault}
use Rattle.buck_book_journal.specs.declared.replay_fault.ReplayFault.{ReplayFault}
use Rattle.buckfleet_engine_files.specs.declared.fault.EngineFault.{EngineFault}
use Rattle.buckfleet_engine_files.specs.declared.fault.EngineFault.TheVariants.{Write, Replay, Memory}
use Rattle.buckfleet_engine_files.specs.Written.{AppendsSome}

-- there was no memory for a text, and nothing was written, or the output can't be written
abbrev pub Fails : Option (List ℕ) → Option (List ℕ) → EngineFault → Type 0
Fails old new fault =
    ((fault ≡ Memory) × Keeps old new) ⊎ ((fault ≡ Write) × ((text : List ℕ) × AppendsSome old new text))

-- this is written, or it fails
abbrev pub WritesAs : Type 0 → Option (List ℕ) → Option (List ℕ) → Result (Unit {0}) EngineFault → Type 0
WritesAs Shown old new (Ok _) = Shown
WritesAs Shown old new (Err fault) = Fails old new fault

-- what is left of this fault is written, or it fails
abbrev pub ShowsFault : Type 0 → ReplayFault → Option (List ℕ) → Option (List ℕ) → EngineFault → Type 0
ShowsFault Left why old new fault = ((fault ≡ Replay why) × Left) ⊎ Fails old new fault

-- a lawful history is shown, and of another what is left of its first fault; it fails to be written only if there is
-- something to write
abbrev pub ShowsHistory : (HistoryParts → Type 0) → Type 0 → Type 0 → HistoryParts → Option (List ℕ) → Option (List ℕ)
    → Result (Unit {0}) EngineFault → Type 0
ShowsHistory HasText Shown Left h old new (Ok _) = IsLawful h × Shown
ShowsHistory HasText Shown Left h old new (Err fault) =
    (Fails old new fault × (fault ≡ Write → HasText h))
    ⊎ ((why : ReplayFault) × (fault ≡ Replay why) × IsFirstFault h why × Left)
