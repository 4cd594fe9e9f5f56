-- Faults that aren't those of a writer.
use Rattle.std.proofs.Common.{ℕ, inl, inr, List, Option, Result, Err, sym, subst}
use Rattle.buckfleet_engine_files.specs.declared.fault.EngineFault.{EngineFault}
use Rattle.buckfleet_engine_files.specs.declared.fault.EngineFault.TheVariants.{Write}
use Rattle.buckfleet_engine_files.specs.Reading.{IsFileFault}
use Rattle.buckfleet_engine_files.specs.Written.{IsRun}

-- a fault other than that of a writer
abbrev pub IsNoWrite : EngineFault → Type 0
IsNoWrite Write = ⊥
IsNoWrite _ = Unit {0}

pub file_fault : {V F : Type 0} (number : ℕ) (named : F → EngineFault) (reading : List ℕ → Result V F)
    (file : Option (List ℕ)) (fault : EngineFault)
    → ((why : F) → IsNoWrite (named why)) → IsFileFault number named reading file fault → IsNoWrite fault
file_fault number named reading file fault none (inl read) = subst IsNoWrite (sym read) tt
file_fault number named reading file fault none (inr (inl memory)) = subst IsNoWrite (sym memory) tt
file_fault number named reading file fault none (inr (inr (why, is, e))) = subst IsNoWrite (sym is) (none why)

-- a run that has a fault for an answer
pub no_answer : {T : Type 0} (Answers : Result T EngineFault → Type 0) (Whole Part : T → Type 0) (Nothing : Type 0)
    (fault : EngineFault)
    → IsNoWrite fault → Answers (Err fault) → Nothing → IsRun Answers Whole Part Nothing (Err fault)
no_answer Answers Whole Part Nothing Write other a kept = absurd other
no_answer Answers Whole Part Nothing fault other a kept = (a, kept)
