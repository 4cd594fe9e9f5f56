-- How a whole run over files beside an instruction ends: what is reported of it.
use Rattle.std.specs.Prelude.{ℕ, List, Option, Result, Ok, Err}
use Rattle.std.specs.Io.KnownBytes.{Appends, Keeps}
use Rattle.buckfleet_engine_files.specs.declared.fault.EngineFault.TheVariants.{Write}
use Rattle.buckfleet_engine_files.specs.Written.{AppendsSome}
use Rattle.buckfleet_engine_files.specs.Written.{AppendsFirst}
use Rattle.buckfleet_terms_files.specs.declared.fault.TermsFault.{TermsFault}
use Rattle.buckfleet_terms_files.specs.declared.fault.TermsFault.TheVariants.{Run}
use Rattle.buckfleet_terms_files.specs.Faults.{terms_line, terms_status}

-- the exit status of a run
abbrev pub terms_status_after : Result (Unit {0}) TermsFault → ℕ
terms_status_after (Ok _) = 0
terms_status_after (Err fault) = terms_status fault

-- nothing is said of a run that went well, and of a fault its line
abbrev pub TellsTerms : Option (List ℕ) → Option (List ℕ) → Result (Unit {0}) TermsFault → Type 0
TellsTerms old new (Ok _) = Keeps old new
TellsTerms old new (Err fault) = AppendsFirst old new (terms_line fault)

-- how a run ended that is to write the text that it answers: the whole text is written, or some first bytes of it if
-- the writer failed, or nothing if the answer is a fault
abbrev pub WritesTerms : (Result (List ℕ) TermsFault → Type 0) → Option (List ℕ) → Option (List ℕ)
    → Result (Unit {0}) TermsFault → Type 0
WritesTerms Answers old new (Ok _) = (text : List ℕ) × Answers (Ok text) × Appends old new text
WritesTerms Answers old new (Err (Run Write)) = (text : List ℕ) × Answers (Ok text) × AppendsSome old new text
WritesTerms Answers old new (Err fault) = Answers (Err fault) × Keeps old new
