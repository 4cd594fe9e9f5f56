-- What is read of a file's bytes.
use Rattle.std.specs.Prelude.{◌≡◌, ◌⊎◌, List, ℕ, Result, Ok, Err, ◌≤◌, length, Option, IfSome}
use Rattle.buck_record.specs.checking.Check.{◌>>=◌}
use Rattle.buck_apt_instruction.specs.Instruction.{InstructionParts}
use Rattle.buck_apt.specs.Apt.{apt_of}
use Rattle.buck_stem.specs.Stm.{stm_of}
use Rattle.buckfleet_engine_files.specs.declared.fault.EngineFault.{EngineFault}
use Rattle.buckfleet_engine_files.specs.declared.fault.EngineFault.TheVariants.{Apt, Stm, Memory, Read, Journal, Seats}
use Rattle.buck_apt.specs.declared.fault.AptFault.{AptFault}
use Rattle.buck_apt_instruction.specs.Settings.{SettingsParts, with_settings}

-- the bytes are refused, which is named so, or memory ran out
abbrev pub AreRefused : {V F : Type 0} → (F → EngineFault) → (List ℕ → Result V F) → List ℕ → EngineFault → Type 0
AreRefused named reading bytes fault = (fault ≡ Memory) ⊎ ((why : _) × (fault ≡ named why) × (reading bytes ≡ Err why))

-- a file has no more bytes than it may have
abbrev pub IsWithinLimit : List ℕ → Type 0
IsWithinLimit bytes = length bytes ≤ 67108864

-- how the bytes of an instruction file are read
abbrev pub ReadsApt : Type 0
ReadsApt = List ℕ → Result InstructionParts AptFault

-- the instruction of the bytes, or their refusal, which is by their own numbers; then a run's numbers are put in
unfoldable pub apt_with : SettingsParts → ReadsApt
apt_with settings bytes = do
  own ← apt_of bytes
  Ok (with_settings settings own)

-- what the bytes of a file say, as far as they are known; no longer file is read as one
abbrev pub Says : {V F : Type 0} → (List ℕ → Result V F) → Option (List ℕ) → Result V F → Type 0
Says reading file answer = IfSome file (λ bytes. IsWithinLimit bytes × (reading bytes ≡ answer))

-- a file is not refused
abbrev pub IsAccepted : {V F : Type 0} → (List ℕ → Result V F) → Option (List ℕ) → Type 0
IsAccepted reading file = (value : _) × Says reading file (Ok value)

-- the file of this number can't be read, or it is refused, which is named so; or memory ran out
abbrev pub IsFileFault : {V F : Type 0} → ℕ → (F → EngineFault) → (List ℕ → Result V F) → Option (List ℕ)
    → EngineFault → Type 0
IsFileFault number named reading file fault =
    (fault ≡ Read number) ⊎ ((fault ≡ Memory) ⊎ ((why : _) × (fault ≡ named why) × Says reading file (Err why)))

-- the same of the instruction file, which is file 0, and of a stem file
abbrev pub IsAptFault : Option (List ℕ) → EngineFault → Type 0
IsAptFault apt fault = IsFileFault 0 Apt apt_of apt fault

abbrev pub IsStmFault : ℕ → Option (List ℕ) → EngineFault → Type 0
IsStmFault number stm fault = IsFileFault number (Stm number) stm_of stm fault

-- if a fault is one of a file, or comes before any is read, what holds of the number of the last that was read
abbrev pub IfStopped : (ℕ → Type 0) → EngineFault → Type 0
IfStopped Last (Read file) = Last file
IfStopped Last (Apt fault) = Last 0
IfStopped Last (Journal fault) = Last 1
IfStopped Last (Stm file fault) = Last file
IfStopped Last Seats = Last 0
IfStopped Last _ = Unit {0}
