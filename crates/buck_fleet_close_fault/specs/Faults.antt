-- How a fleet that didn't close well is reported: the fault's number, then its fields in the order of their definition.
use Rattle.std.specs.Prelude.{ℕ, List, [], ◌∷◌}
use Rattle.buck_fleet_close_fault.specs.declared.fault.CloseFault.{CloseFault}
use Rattle.buck_fleet_close_fault.specs.declared.fault.CloseFault.TheVariants.{Instruction, Calls}

abbrev pub close_numbers : CloseFault → List ℕ
close_numbers Instruction = 1 ∷ []
close_numbers (Calls harvester number) = 2 ∷ harvester ∷ number ∷ []
