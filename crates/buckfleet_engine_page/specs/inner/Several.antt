-- Several journals as they are read, and how what they show is written.
use Rattle.std.specs.Prelude.{◌≡◌, ◌⊎◌, ℕ, List, length, Option, Result, Ok, Err}
use Rattle.buck_apt_instruction.specs.Instruction.{InstructionParts}
use Rattle.buck_book_journal.specs.Journal.{JournalParts}
use Rattle.buck_book_journal.specs.declared.replay_fault.ReplayFault.{ReplayFault}
use Rattle.buckfleet_engine_files.specs.declared.fault.EngineFault.{EngineFault}
use Rattle.buckfleet_engine_files.specs.declared.fault.EngineFault.TheVariants.{Write}
use Rattle.buckfleet_engine_files.specs.Several.{AreLawful, IsFirstUnlawful, replay_fault}
use Rattle.buckfleet_engine_page.specs.inner.View.{Fails}

-- what is left of a journal that isn't lawful is written, and this is its fault, or it fails
abbrev pub ShowsUnlawful : Type 0 → EngineFault → Option (List ℕ) → Option (List ℕ) → EngineFault → Type 0
ShowsUnlawful Left named old new fault = ((fault ≡ named) × Left) ⊎ Fails old new fault

-- lawful journals are shown, and of others what is left of the first that isn't; it fails to be written only if
-- there is something to write
abbrev pub ShowsAll : (InstructionParts → List JournalParts → Type 0) → Type 0 → Type 0 → InstructionParts
    → List JournalParts → Option (List ℕ) → Option (List ℕ) → Result (Unit {0}) EngineFault → Type 0
ShowsAll HasText Shown Left i js old new (Ok _) = AreLawful i js × Shown
ShowsAll HasText Shown Left i js old new (Err fault) =
    (Fails old new fault × (fault ≡ Write → HasText i js))
    ⊎ ((place : ℕ) × (why : ReplayFault) × (fault ≡ replay_fault (length js) place why)
    × IsFirstUnlawful i js place why × Left)
