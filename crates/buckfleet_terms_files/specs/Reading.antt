-- What is read of files beside an instruction.
use Rattle.std.specs.Prelude.{◌≡◌, ◌⊎◌, ℕ, List, Option, Some, None, Result, Ok, Err, IfSome}
use Rattle.buck_apt.specs.declared.fault.AptFault.{AptFault}
use Rattle.buck_apt.specs.Apt.{apt_of}
use Rattle.buck_apt_instruction.specs.Instruction.{InstructionParts}
use Rattle.buckfleet_engine_files.specs.declared.fault.EngineFault.{EngineFault}
use Rattle.buckfleet_engine_files.specs.declared.fault.EngineFault.TheVariants.{Read, Memory}
use Rattle.buckfleet_engine_files.specs.Reading.{IsWithinLimit, Says}
use Rattle.buckfleet_terms_files.specs.declared.fault.OwnFault.TheVariants.{Refused}
use Rattle.buckfleet_terms_files.specs.declared.fault.TermsFault.{TermsFault}
use Rattle.buckfleet_terms_files.specs.declared.fault.TermsFault.TheVariants.{Run, Targets, Own}
use Rattle.buckfleet_terms_files.specs.Own.{IsShapeFault}
use Rattle.buckfleet_terms_files.specs.Targets.{HasTargets, IsRefused}

-- the last file is opened, with its number; one that can't be opened is that fault
abbrev pub AnswersLast : {O F : Type 0} → (O → List ℕ → Option F → O → Type 0) → O → O → List ℕ → ℕ
    → Result (F × ℕ) EngineFault → Type 0
AnswersLast opens old new name number (Ok opened) = opens old name (Some opened.0) new × (opened.1 ≡ number)
AnswersLast opens old new name number (Err fault) = opens old name None new × (fault ≡ Read number)

-- the same, if it is named
abbrev pub AnswersMore : {O F : Type 0} → (O → List ℕ → Option F → O → Type 0) → O → O → Option (List ℕ) → ℕ
    → Result (Option (F × ℕ)) EngineFault → Type 0
AnswersMore opens old new None number (Ok None) = new ≡ old
AnswersMore opens old new None number (Ok (Some opened)) = ⊥
AnswersMore opens old new None number (Err fault) = ⊥
AnswersMore opens old new (Some name) number (Ok None) = ⊥
AnswersMore opens old new (Some name) number (Ok (Some opened)) = AnswersLast opens old new name number (Ok opened)
AnswersMore opens old new (Some name) number (Err fault) = AnswersLast opens old new name number (Err fault)

-- the file of a number can't be read, or memory ran out
abbrev pub IsUnread : ℕ → TermsFault → Type 0
IsUnread number fault = (fault ≡ Run (Read number)) ⊎ (fault ≡ Run Memory)

-- a file of targets has these
abbrev pub SaysTargets : InstructionParts → Option (List ℕ) → List ℕ → Type 0
SaysTargets i file targets = IfSome file (λ bytes. IsWithinLimit bytes × HasTargets i bytes targets)

-- why the file of targets of a number gives none
abbrev pub IsTargetsFileFault : ℕ → InstructionParts → Option (List ℕ) → TermsFault → Type 0
IsTargetsFileFault number i file fault = IsUnread number fault
    ⊎ ((why : _) × (fault ≡ Targets why) × IfSome file (λ bytes. IsWithinLimit bytes × IsRefused i bytes why))

-- why the file of an owner's instruction of a number gives none
abbrev pub IsOwnFileFault : ℕ → InstructionParts → Option (List ℕ) → TermsFault → Type 0
IsOwnFileFault number i file fault = IsUnread number fault
    ⊎ (((why : AptFault) × (fault ≡ Own (Refused why)) × Says apt_of file (Err why))
    ⊎ ((own : InstructionParts) × (why : _) × (fault ≡ Own why) × Says apt_of file (Ok own) × IsShapeFault i own why))
