-- Checks one after the other: the first that fails is the answer. Generic in the fault.
use Rattle.std.specs.Prelude.{◌≡◌, ℕ, Bool, true, false, List, [], ◌∷◌, Option, Some, None, Result, Ok, Err}
use Rattle.std.specs.Borrow.{Bor}
use Rattle.buck_record.specs.declared.slot.Slot.{Slot}
use Rattle.buck_record.specs.Reading.{Gives, IsMemory}

-- what f gives of a value, or the fault
infixl 10 ◌>>=◌
abbrev pub ◌>>=◌ : {A B E : Type 0} → Result A E → (A → Result B E) → Result B E
(Ok x) >>= f = f x
(Err e) >>= f = Err e

-- the fault, if the test fails
abbrev pub check : {E : Type 0} → Bool → E → Result (Unit {0}) E
check true fault = Ok tt
check false fault = Err fault

-- the fault of a slot, if there is one
abbrev pub none_of : {E : Type 0} → Option Slot → (ℕ → ℕ → E) → Result (Unit {0}) E
none_of None fault = Ok tt
none_of (Some slot) fault = Err (fault slot.number slot.kind)

-- the first fault of the elements
unfoldable pub each : {X E : Type 0} → (X → Result (Unit {0}) E) → List X → Result (Unit {0}) E
each f [] = Ok tt
each f (x ∷ xs) = f x >>= λ _. each f xs

-- what f makes of the elements, or the first fault
unfoldable pub make_each : {X Y E : Type 0} → (X → Result Y E) → List X → Result (List Y) E
make_each f [] = Ok []
make_each f (x ∷ xs) = f x >>= λ y. make_each f xs >>= λ ys. Ok (y ∷ ys)

-- what a closure answers is what the check gives
abbrev pub IsCheck : {X E : Type 0} → (Bor X → Result (Unit {0}) E → Type 0) → (X → Result (Unit {0}) E) → Type 0
IsCheck {X} {E} post t = (x : Bor X) (r : Result (Unit {0}) E) → post x r → r ≡ t x.now

-- the answer is the first fault of the elements, by the check that the closure answers
abbrev pub ChecksEach : {X E : Type 0} → (Bor X → Result (Unit {0}) E → Type 0) → List X → Result (Unit {0}) E → Type 0
ChecksEach {X} {E} post xs r = (t : X → Result (Unit {0}) E) → IsCheck post t → r ≡ each t xs

-- a closure makes of an element what f makes of it, memory aside
abbrev pub IsMaker : {X Y E : Type 0} → E → (Bor X → Result Y E → Type 0) → (X → Result Y E) → Type 0
IsMaker {X} {Y} {E} memory post f = (x : Bor X) (r : Result Y E) → post x r → Gives memory r (f x.now)

-- the answer is what the closure makes of the elements, or the first fault, memory aside
abbrev pub MakesEach : {A X Y E : Type 0} → (A → E → Type 0) → (Bor X → Result Y E → Type 0) → List X
    → Result (List Y) E → Type 0
MakesEach {A} {X} {Y} {E} gives post xs r =
    (memory : E) (f : X → Result Y E) → IsMemory gives memory → IsMaker memory post f → Gives memory r (make_each f xs)
