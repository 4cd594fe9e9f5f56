-- Numbers in decimal, and lines with them.
use Rattle.std.proofs.Common.{◌≡◌, ℕ, List, [], ◌∷◌, length, slice_index_or, Some, sym, ap, ◌∙◌, refl, arith}
use Rattle.std.specs.Fmt.{decimal, digits}
use Rattle.buckfleet_engine_files.specs.declared.fault.EngineFault.TheVariants.{Read}
use Rattle.buckfleet_engine_files.specs.Faults.{fault_line}
use Rattle.buckfleet_engine_files.specs.Written.{AppendsFirst}
use Rattle.wrong_engine.proofs.Unlike.{taken_whole}

pub one : decimal 1 ≡ 49 ∷ []
unfolding digits
one = refl

-- the line of file 0
abbrev pub line_of_file_0 : List ℕ
line_of_file_0 = 114 ∷ 101 ∷ 97 ∷ 100 ∷ 32 ∷ 102 ∷ 97 ∷ 117 ∷ 108 ∷ 116 ∷ 32 ∷ 48 ∷ 10 ∷ []

long : length (fault_line (Read 1)) ≡ length line_of_file_0
unfolding digits
long = refl

unlike : fault_line (Read 1) ≡ line_of_file_0 → ⊥
unfolding digits
unlike e = let at : 49 ≡ 48 = ap (λ xs. slice_index_or xs 11 0) e in omega (arith, at)

-- first bytes of the line of file 1 aren't that line
pub not_of_file_0 : (items : List ℕ) → AppendsFirst (Some []) (Some items) (fault_line (Read 1))
    → items ≡ line_of_file_0 → ⊥
not_of_file_0 items (k, le, is) e = unlike (taken_whole k (fault_line (Read 1)) line_of_file_0 long (sym is ∙ e))
