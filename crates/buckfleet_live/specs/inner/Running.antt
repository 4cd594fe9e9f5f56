-- A run over an input that goes on.
use Rattle.std.specs.Prelude.{◌≡◌, ℕ, List, Option, Result, Ok, Err}
use Rattle.std.specs.Io.KnownBytes.{Appends}
use Rattle.buck_book_postings.specs.History.{HistoryParts}
use Rattle.buckfleet_engine_files.specs.declared.fault.EngineFault.{EngineFault}
use Rattle.buckfleet_engine_files.specs.declared.fault.EngineFault.TheVariants.{Write}
use Rattle.buckfleet_engine_files.specs.Written.{AppendsFirst}
use Rattle.buckfleet_live.specs.Live.{IsLiveRun}

-- an answer was written, or first bytes of it
abbrev pub IsSaid : Option (List ℕ) → Option (List ℕ) → List ℕ → Result (Unit {0}) EngineFault → Type 0
IsSaid old new text (Ok _) = Appends old new text
IsSaid old new text (Err fault) = (fault ≡ Write) × AppendsFirst old new text

-- whatever run goes on from here makes a run from the start: what was the history, left of the input, and written
abbrev pub GoesOn : HistoryParts → HistoryParts → Option (List ℕ) → Option (List ℕ) → Option (List ℕ) → Option (List ℕ)
    → Type 0
GoesOn before now input left old new =
    (outcome : Result (Unit {0}) EngineFault) (after : HistoryParts) (last : Option (List ℕ))
    → IsLiveRun now left new last outcome after → IsLiveRun before input old last outcome after
