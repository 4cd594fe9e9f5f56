-- Checks of a list, one element after the other.
use Rattle.std.proofs.Common.{◌≡◌, ℕ, ◌+◌, ◌<◌, List, [], ◌∷◌, ◌++◌, append_assoc, Result, Ok, Err, length, get_or, drop, refl, ap}
use Rattle.std.proofs.lemmas.List.{drop_more}
use Rattle.buck_record.specs.checking.Check.{◌>>=◌, IsCheck, IsMaker}
unfoldable use Rattle.buck_record.specs.checking.Check.{each, make_each}
use Rattle.buck_record.specs.Reading.{IsMemory}
use Rattle.std.specs.Borrow.{Bor}

-- a list from one of its elements on
pub here : {X : Type 0} (xs : List X) (i : ℕ) (x : X) → i < length xs → x ≡ get_or xs i x
    → drop i xs ≡ x ∷ drop (i + 1) xs
here xs i x lt is = rw (← is) at (drop_more xs i x lt)

-- the checks from an element on give what those of all give
abbrev pub GoesOn : {X E : Type 0} → (Bor X → Result (Unit {0}) E → Type 0) → List X → ℕ → Type 0
GoesOn {X} {E} post xs i = (t : X → Result (Unit {0}) E) → IsCheck post t → each t (drop i xs) ≡ each t xs

-- elements that are made, after others
abbrev pub after_front : {Y E : Type 0} → List Y → Result (List Y) E → Result (List Y) E
after_front front read = read >>= λ ys. Ok (front ++ ys)

pub regroup : {Y E : Type 0} (front : List Y) (y : Y) (read : Result (List Y) E)
    → after_front front (read >>= λ ys. Ok (y ∷ ys)) ≡ after_front (front ++ y ∷ []) read
regroup front y (Ok ys) = ap (λ zs. Ok zs) (simp append_assoc)
regroup front y (Err e) = refl

-- the elements that were made, before those that are still to be made
abbrev pub MakesSoFar : {A X Y E : Type 0} → (A → E → Type 0) → (Bor X → Result Y E → Type 0) → List X → List Y → ℕ
    → Type 0
MakesSoFar {A} {X} {Y} {E} gives post xs made i =
    (memory : E) (f : X → Result Y E) → IsMemory gives memory → IsMaker memory post f
    → after_front made (make_each f (drop i xs)) ≡ make_each f xs
