-- What the tests of numbers and names say.
use Rattle.std.proofs.Common.{◌≡◌, ℕ, ◌+◌, ◌≤◌, true, List, [], ◌∷◌, length, drop, refl, arith, length-drop}
use Rattle.buck_record.specs.checking.Rules.{is_rising}

short : (ns : List ℕ) → length ns ≤ 1 → is_rising ns ≡ true
short [] le = refl
short (n ∷ []) le = refl
short (m ∷ n ∷ ns) le = absurd (omega arith)

pub is_rising_end : (ns : List ℕ) (i : ℕ) → length ns ≤ i + 1 → is_rising (drop i ns) ≡ true
is_rising_end ns i le = short (drop i ns) (omega (arith, length-drop i ns))
