-- Each refusal is reported by the line of a fault that may come.
use Rattle.std.proofs.Common.{◌⊎◌, ℕ, List, refl, inl, inr}
use Rattle.buckfleet_engine_files.specs.declared.fault.EngineFault.{EngineFault}
use Rattle.buckfleet_engine_files.specs.declared.fault.EngineFault.TheVariants.{Memory}
use Rattle.buckfleet_engine_files.specs.Faults.{fault_line, memory_line, status_of}
use Rattle.buck_c_calls.specs.Room.{IsPutAs, IsPut}
use Rattle.buck_c_calls.specs.Files.{IsToldOf}

-- the fault's own line was put, or that of memory
pub told : (Refused : EngineFault → Type 0) (fault : EngineFault) (old new : List ℕ) (written result : ℕ)
    → Refused fault → Refused Memory
    → IsPutAs (fault_line fault) (status_of fault) old new written result ⊎ IsPutAs memory_line 3 old new written result
    → IsPut (IsToldOf Refused) old new written result
told Refused fault old new written result r m (inl put) =
    (fault_line fault, status_of fault, (fault, r, refl, refl), put)
told Refused fault old new written result r m (inr put) = (memory_line, 3, (Memory, m, refl, refl), put)

-- reports of refusals are among all reports
pub or_told : (Answer : List ℕ → ℕ → Type 0) (Refused : EngineFault → Type 0) (old new : List ℕ) (written result : ℕ)
    → IsPut (IsToldOf Refused) old new written result
    → IsPut (λ text status. Answer text status ⊎ IsToldOf Refused text status) old new written result
or_told Answer Refused old new written result (text, status, told, put) = (text, status, inr told, put)

-- what is put of one kind is put of another that it is among
pub among : (A B : List ℕ → ℕ → Type 0) (old new : List ℕ) (written result : ℕ)
    → ((text : List ℕ) (status : ℕ) → A text status → B text status)
    → IsPut A old new written result → IsPut B old new written result
among A B old new written result is (text, status, a, put) = (text, status, is text status a, put)
