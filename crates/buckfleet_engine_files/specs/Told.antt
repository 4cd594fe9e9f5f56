-- How a journal that isn't tied is reported: the fault's number, then its fields in the order of their definition.
use Rattle.std.specs.Prelude.{ℕ, List, [], ◌∷◌}
use Rattle.buckfleet_engine_files.specs.declared.check_fault.CheckFault.{CheckFault}
use Rattle.buckfleet_engine_files.specs.declared.check_fault.CheckFault.TheVariants.{Other, Uncut, Surplus, Price}

abbrev pub check_numbers : CheckFault → List ℕ
check_numbers (Other harvester place) = 1 ∷ harvester ∷ place ∷ []
check_numbers (Uncut harvester place) = 2 ∷ harvester ∷ place ∷ []
check_numbers (Surplus harvester place) = 3 ∷ harvester ∷ place ∷ []
check_numbers (Price version class price wanted) = 4 ∷ version ∷ class ∷ price ∷ wanted ∷ []
