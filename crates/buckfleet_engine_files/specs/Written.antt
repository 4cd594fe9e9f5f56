-- What is written.
use Rattle.std.specs.Prelude.{◌≡◌, ◌≤◌, ℕ, List, length, take, Option, Result, Ok, Err, ◌<◌, Bool, true, false}
use Rattle.std.specs.Io.KnownBytes.{Appends, Keeps}
use Rattle.buckfleet_engine_files.specs.declared.fault.EngineFault.{EngineFault}
use Rattle.buckfleet_engine_files.specs.declared.fault.EngineFault.TheVariants.{Write}

-- first bytes of a text were written: all of it, if the writer took them
abbrev pub AppendsFirst : Option (List ℕ) → Option (List ℕ) → List ℕ → Type 0
AppendsFirst old new text = (k : ℕ) × (k ≤ length text) × Appends old new (take k text)

-- some first bytes of a text were written, and not all
abbrev pub AppendsSome : Option (List ℕ) → Option (List ℕ) → List ℕ → Type 0
AppendsSome old new text = (k : ℕ) × (k < length text) × Appends old new (take k text)

-- if a text could be written all of it is there, else not all
abbrev pub IsWritten : Option (List ℕ) → Option (List ℕ) → List ℕ → Result (Unit {0}) EngineFault → Type 0
IsWritten old new text (Ok _) = Appends old new text
IsWritten old new text (Err fault) = (fault ≡ Write) × AppendsSome old new text

-- the answer tells whether all of it is there
abbrev pub TellsWritten : Option (List ℕ) → Option (List ℕ) → List ℕ → Bool → Type 0
TellsWritten old new text true = Appends old new text
TellsWritten old new text false = AppendsSome old new text

-- how a run ended that is to write what it answers to the files read: the whole answer is written, or a part of it
-- if a writer failed, or nothing if the answer is a fault
abbrev pub IsRun : {T : Type 0} → (Result T EngineFault → Type 0) → (T → Type 0) → (T → Type 0) → Type 0
    → Result (Unit {0}) EngineFault → Type 0
IsRun Answers Whole Part Nothing (Ok _) = (text : _) × Answers (Ok text) × Whole text
IsRun Answers Whole Part Nothing (Err Write) = (text : _) × Answers (Ok text) × Part text
IsRun Answers Whole Part Nothing (Err fault) = Answers (Err fault) × Nothing

-- the same if the answer is one text
abbrev pub WritesText : (Result (List ℕ) EngineFault → Type 0) → Option (List ℕ) → Option (List ℕ)
    → Result (Unit {0}) EngineFault → Type 0
WritesText Answers old new outcome = IsRun Answers (Appends old new) (AppendsSome old new) (Keeps old new) outcome
