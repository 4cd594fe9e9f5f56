-- A list that passes the test of rising numbers rises.
use Rattle.std.proofs.Common.{◌≡◌, ℕ, ◌<◌, true, List, [], ◌∷◌, length, slice_index, arith, zero, suc, add-one, nat_lt}
use Rattle.std.specs.List.Sorted.{IsStrictlyIncreasing}
use Rattle.std.proofs.lemmas.Bool.{ltb-true}
use Rattle.buck_record.specs.checking.Rules.{is_rising}
use Rattle.buck_record.proofs.PassLemmas.{both}

rising_at : (ns : List ℕ) → is_rising ns ≡ true → (k : ℕ) → suc k < length ns
    → slice_index ns k < slice_index ns (suc k)
rising_at [] h k lt = absurd (omega arith)
rising_at (n ∷ []) h k lt = absurd (omega arith)
rising_at (m ∷ n ∷ ns) h zero lt = ltb-true _ _ (both (nat_lt m n) _ h).0
rising_at (m ∷ n ∷ ns) h (suc k) lt = rising_at (n ∷ ns) (both (nat_lt m n) _ h).1 k (omega arith)

pub rising_ok : (ns : List ℕ) → is_rising ns ≡ true → IsStrictlyIncreasing ns
rising_ok ns h = λ k lt. rw add-one (rising_at ns h k (omega arith))
