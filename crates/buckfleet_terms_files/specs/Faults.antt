-- What the program says of a fault of a file beside an instruction: its line on standard error and the exit status.
use Rattle.std.specs.Prelude.{ℕ, List, [], ◌∷◌, codes}
use Rattle.buck_apt.specs.Faults.{apt_numbers}
use Rattle.buckfleet_engine_files.specs.Faults.{fault_line, numbered_line, status_of, status_or}
use Rattle.buckfleet_engine_files.specs.declared.fault.EngineFault.TheVariants.{Memory as NoMemory}
use Rattle.buckfleet_terms_files.specs.declared.fault.TargetsFault.{TargetsFault}
use Rattle.buckfleet_terms_files.specs.declared.fault.TargetsFault.TheVariants.{Count, Range, Sum, Head, Digits, Memory}
use Rattle.buckfleet_terms_files.specs.declared.fault.OwnFault.{OwnFault}
use Rattle.buckfleet_terms_files.specs.declared.fault.OwnFault.TheVariants.{Refused, Whole, Part}
use Rattle.buckfleet_terms_files.specs.declared.fault.TermsFault.{TermsFault}
use Rattle.buckfleet_terms_files.specs.declared.fault.TermsFault.TheVariants.{Run, Targets, Own}

-- the number of a fault, then its fields in the order of their definition; memory that ran out has no number
abbrev pub targets_numbers : TargetsFault → List ℕ
targets_numbers Count = 1 ∷ []
targets_numbers (Range at) = 2 ∷ at ∷ []
targets_numbers (Sum assortment) = 3 ∷ assortment ∷ []
targets_numbers (Head item) = 4 ∷ item ∷ []
targets_numbers (Digits list place) = 5 ∷ list ∷ place ∷ []
targets_numbers Memory = []

abbrev pub own_numbers : OwnFault → List ℕ
own_numbers (Refused fault) = apt_numbers fault
own_numbers (Whole number kind) = 11 ∷ number ∷ kind ∷ []
own_numbers (Part number kind assortment) = 12 ∷ number ∷ kind ∷ assortment ∷ []

-- the fault of a run whose memory ran out
abbrev pub no_memory : TermsFault
no_memory = Run NoMemory

-- why a run failed whose file of targets was refused, or not read to its end
abbrev pub of_targets : TargetsFault → TermsFault
of_targets Memory = no_memory
of_targets fault = Targets fault

-- the line of a fault
abbrev pub terms_line : TermsFault → List ℕ
terms_line (Run fault) = fault_line fault
terms_line (Targets fault) = numbered_line (codes "targets") [] (targets_numbers fault)
terms_line (Own fault) = numbered_line (codes "own") [] (own_numbers fault)

-- the exit status after a fault: 1 after a file that is refused, 3 if memory ran out in its place
abbrev pub terms_status : TermsFault → ℕ
terms_status (Run fault) = status_of fault
terms_status (Targets fault) = status_or 1 (targets_numbers fault)
terms_status (Own fault) = status_or 1 (own_numbers fault)
