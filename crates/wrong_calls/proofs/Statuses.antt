-- Which statuses can't come of two files.
use Rattle.std.proofs.Common.{◌≡◌, ℕ, List, Some, Result, Ok, Err, inl, inr, sym, ap, ◌∙◌, arith}
use Rattle.buck_apt.specs.declared.fault.AptFault.{AptFault}
use Rattle.buck_apt.specs.Apt.{apt_of}
use Rattle.buck_apt_instruction.specs.Instruction.{InstructionParts}
use Rattle.buck_stem_shape.specs.Stem.{StemParts}
use Rattle.buck_stem.specs.Stm.{stm_of}
use Rattle.buckfleet_engine_files.specs.declared.fault.EngineFault.{EngineFault}
use Rattle.buckfleet_engine_files.specs.declared.fault.EngineFault.TheVariants.{Apt, Stm}
use Rattle.buckfleet_engine_files.specs.Faults.{status_of}
use Rattle.buckfleet_engine_files.specs.Reading.{IsFileFault}
use Rattle.buckfleet_engine_files.proofs.Statuses.{never_0}
use Rattle.buck_c_calls.specs.Room.{IsPut}
use Rattle.buck_c_calls.specs.Files.{IsBucked}
use Rattle.wrong_calls.proofs.Fits.{never_of}

abbrev tag : {V F : Type 0} → Result V F → ℕ
tag (Ok v) = 0
tag (Err f) = 1

-- what is read isn't refused
pub not_both : {V F : Type 0} (r : Result V F) (v : V) (f : F) → r ≡ Ok v → r ≡ Err f → ⊥
not_both {V} {F} r v f ok err = let e : 0 ≡ 1 = ap (λ (x : Result V F). tag x) (sym ok ∙ err) in omega (arith, e)

-- a file that is read has no fault of status 1
file_never_1 : {V F : Type 0} (number : ℕ) (named : F → EngineFault) (reading : List ℕ → Result V F) (bytes : List ℕ)
    (v : V)
    (fault : EngineFault) → reading bytes ≡ Ok v → IsFileFault number named reading (Some bytes) fault
    → status_of fault ≡ 1 → ⊥
file_never_1 number named reading bytes v fault ok (inl read) e =
    let is : 5 ≡ 1 = ap (λ f. status_of f) (sym read) ∙ e in omega (arith, is)
file_never_1 number named reading bytes v fault ok (inr (inl memory)) e =
    let is : 3 ≡ 1 = ap (λ f. status_of f) (sym memory) ∙ e in omega (arith, is)
file_never_1 number named reading bytes v fault ok (inr (inr why)) e = not_both (reading bytes) v why.0 ok why.2.1

bucked_1 : (apt stm : List ℕ) (i : InstructionParts) (stems : List StemParts) → apt_of apt ≡ Ok i
    → stm_of stm ≡ Ok stems
    → (text : List ℕ) (status : ℕ) → IsBucked apt stm text status → status ≡ 1 → ⊥
bucked_1 apt stm i stems a b text status (inl done) is = omega (arith, done.1, is)
bucked_1 apt stm i stems a b text status (inr (fault, inl why, text_is, status_is)) is =
    file_never_1 0 (λ f. Apt f) apt_of apt i fault a why (sym status_is ∙ is)
bucked_1 apt stm i stems a b text status (inr (fault, inr why, text_is, status_is)) is =
    file_never_1 1 (λ f. Stm 1 f) stm_of stm stems fault b why.1 (sym status_is ∙ is)

bucked_0 : (apt stm : List ℕ) (refused : AptFault) → apt_of apt ≡ Err refused
    → (text : List ℕ) (status : ℕ) → IsBucked apt stm text status → status ≡ 0 → ⊥
bucked_0 apt stm refused a text status (inl done) is =
    not_both (apt_of apt) done.0.instruction refused done.0.apt_says.1 a
bucked_0 apt stm refused a text status (inr (fault, why, text_is, status_is)) is = never_0 fault (sym status_is ∙ is)

-- two files that are read are never refused
pub never_refused : (apt stm old new : List ℕ) (written result : ℕ) (i : InstructionParts) (stems : List StemParts)
    → apt_of apt ≡ Ok i → stm_of stm ≡ Ok stems → IsPut (IsBucked apt stm) old new written result → result ≡ 1 → ⊥
never_refused apt stm old new written result i stems a b put is =
    never_of (IsBucked apt stm) old new written result 1 (omega arith) (bucked_1 apt stm i stems a b) put is

-- an instruction that is refused never ends well
pub never_done : (apt stm old new : List ℕ) (written result : ℕ) (refused : AptFault) → apt_of apt ≡ Err refused
    → IsPut (IsBucked apt stm) old new written result → result ≡ 0 → ⊥
never_done apt stm old new written result refused a put is =
    never_of (IsBucked apt stm) old new written result 0 (omega arith) (bucked_0 apt stm refused a) put is
