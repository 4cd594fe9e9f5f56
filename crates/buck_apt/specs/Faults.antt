-- How an instruction file's fault is reported: its number, then its fields in the order of their definition. Memory
-- that ran out has no number.
use Rattle.std.specs.Prelude.{ℕ, List, [], ◌∷◌}
use Rattle.buck_apt.specs.declared.fault.AptFault.{AptFault}
use Rattle.buck_apt.specs.declared.fault.AptFault.TheVariants.{Head, NotApt, Missing, Twice, Digits, Range, Order, Count, Module, Targets, Memory}

abbrev pub apt_numbers : AptFault → List ℕ
apt_numbers (Head item) = 1 ∷ item ∷ []
apt_numbers NotApt = 2 ∷ []
apt_numbers (Missing number kind) = 3 ∷ number ∷ kind ∷ []
apt_numbers (Twice number kind) = 4 ∷ number ∷ kind ∷ []
apt_numbers (Digits number kind place) = 5 ∷ number ∷ kind ∷ place ∷ []
apt_numbers (Range number kind) = 6 ∷ number ∷ kind ∷ []
apt_numbers (Order number kind) = 7 ∷ number ∷ kind ∷ []
apt_numbers (Count number kind) = 8 ∷ number ∷ kind ∷ []
apt_numbers (Module length) = 9 ∷ length ∷ []
apt_numbers (Targets assortment) = 10 ∷ assortment ∷ []
apt_numbers Memory = []
