-- What the calls over the bytes of files answer: a text and a status.
use Rattle.std.specs.Prelude.{◌≡◌, ℕ, ◌⊎◌, List, Some, Ok, Err}
use Rattle.buckfleet_engine_files.specs.declared.fault.EngineFault.{EngineFault}
use Rattle.buckfleet_engine_files.specs.Faults.{fault_line, status_of}
use Rattle.buckfleet_engine.specs.run.Bucking.{AnswersBuck}
use Rattle.buckfleet_engine.specs.run.Checking.{AnswersCheck, AnswersReport}

-- the line and the exit status of a fault of this kind
abbrev pub IsToldOf : (EngineFault → Type 0) → List ℕ → ℕ → Type 0
IsToldOf Refused text status =
    (fault : EngineFault) × Refused fault × (text ≡ fault_line fault) × (status ≡ status_of fault)

-- the text of the stems, bucked, or the refusal of the first file that has one
abbrev pub IsBucked : List ℕ → List ℕ → List ℕ → ℕ → Type 0
IsBucked apt stm text status =
    (AnswersBuck (Some apt) (Some stm) (Ok text) × (status ≡ 0))
    ⊎ IsToldOf (λ fault. AnswersBuck (Some apt) (Some stm) (Err fault)) text status

-- the line of a lawful journal, or the refusal of the first file that has one, or the journal's first fault
abbrev pub IsChecked : List ℕ → List ℕ → List ℕ → ℕ → Type 0
IsChecked apt journal text status =
    (AnswersCheck (Some apt) (Some journal) (Ok text) × (status ≡ 0))
    ⊎ IsToldOf (λ fault. AnswersCheck (Some apt) (Some journal) (Err fault)) text status

-- the report of a lawful journal, or the refusal of the first file that has one, or the journal's first fault
abbrev pub IsReported : List ℕ → List ℕ → List ℕ → ℕ → Type 0
IsReported apt journal text status =
    (AnswersReport (Some apt) (Some journal) (Ok text) × (status ≡ 0))
    ⊎ IsToldOf (λ fault. AnswersReport (Some apt) (Some journal) (Err fault)) text status
