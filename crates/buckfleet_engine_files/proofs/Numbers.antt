-- A run's numbers in the place of an instruction's own.
use Rattle.std.proofs.Common.{◌≡◌, List, ℕ, Option, Some, None, Result, Ok, Err, refl, sym, ap}
use Rattle.std.proofs.Math.Path.{fun_ext}
use Rattle.buck_record.specs.checking.Check.{◌>>=◌}
use Rattle.buck_apt.specs.declared.fault.AptFault.{AptFault}
use Rattle.buck_apt_instruction.specs.Instruction.{InstructionParts}
use Rattle.buck_apt_instruction.specs.Settings.{SettingsParts, own_numbers, with_settings}
use Rattle.buck_apt.specs.Apt.{apt_of}
use Rattle.buckfleet_engine_files.specs.Reading.{Says, apt_with}

own_put : (r : Result InstructionParts AptFault) → (r >>= λ own. Ok (with_settings own_numbers own)) ≡ r
own_put (Ok own) = refl
own_put (Err fault) = refl

-- no numbers are put in
pub own_reads : (s : SettingsParts) → s ≡ own_numbers → apt_with s ≡ apt_of
unfolding apt_with
own_reads s own = rw own (fun_ext (λ bytes. own_put (apt_of bytes)))

-- an instruction that was read has them put in
pub says_with : (s : SettingsParts) (file : Option (List ℕ)) (own i : InstructionParts) → Says apt_of file (Ok own)
    → i ≡ with_settings s own
    → Says (apt_with s) file (Ok i)
unfolding apt_with
says_with s None own i says same = tt
says_with s (Some bytes) own i (limit, says) same = (limit, rw says (ap (λ (x : InstructionParts). Ok x) (sym same)))
