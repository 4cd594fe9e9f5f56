-- How a stem file's fault is reported: its number, then its fields in the order of their definition. Memory that ran
-- out has no number.
use Rattle.std.specs.Prelude.{ℕ, List, [], ◌∷◌}
use Rattle.buck_stem.specs.declared.fault.StmFault.{StmFault}
use Rattle.buck_stem.specs.declared.fault.StmFault.TheVariants.{Head, NotStm, Missing, Twice, Digits, Range, Order, Count, Memory}

abbrev pub stm_numbers : StmFault → List ℕ
stm_numbers (Head item) = 1 ∷ item ∷ []
stm_numbers NotStm = 2 ∷ []
stm_numbers (Missing number kind) = 3 ∷ number ∷ kind ∷ []
stm_numbers (Twice number kind) = 4 ∷ number ∷ kind ∷ []
stm_numbers (Digits number kind place) = 5 ∷ number ∷ kind ∷ place ∷ []
stm_numbers (Range number kind) = 6 ∷ number ∷ kind ∷ []
stm_numbers (Order number kind) = 7 ∷ number ∷ kind ∷ []
stm_numbers (Count number kind) = 8 ∷ number ∷ kind ∷ []
stm_numbers Memory = []
