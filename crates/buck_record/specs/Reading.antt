-- Reading a list, with the first place that can't be read.
use Rattle.std.specs.Prelude.{◌≡◌, ◌≢◌, ℕ, ◌+◌, List, [], ◌∷◌, ◌++◌, Option, Some, None, Result, Ok, Err}
use Rattle.std.specs.declared.vec.Vec.{Vec}

-- What a function returned is what reading gives, unless memory ran out.
abbrev pub Gives : {X E : Type 0} → E → Result X E → Result X E → Type 0
Gives memory (Ok x) read = read ≡ Ok x
Gives memory (Err e) read = e ≢ memory → read ≡ Err e

-- a failed allocation becomes the fault `memory`
abbrev pub IsMemory : {A E : Type 0} → (A → E → Type 0) → E → Type 0
IsMemory {A} {E} gives memory = (a : A) (e : E) → gives a e → e ≡ memory

-- the elements of a vector that was returned
abbrev pub listed : {X A E : Type 0} → Result (Vec X A) E → Result (List X) E
listed (Ok v) = Ok v.items
listed (Err e) = Err e

-- a list with elements before it
abbrev pub with_front : {X E : Type 0} → List X → Result (List X) E → Result (List X) E
with_front front (Ok xs) = Ok (front ++ xs)
with_front front (Err e) = Err e

-- an element before a list, or the fault e if there is no element
abbrev pub put_front : {X E : Type 0} → Option X → E → Result (List X) E → Result (List X) E
put_front None e rest = Err e
put_front (Some x) e rest = with_front (x ∷ []) rest

-- what f gives at each element, or the first place at which it gives nothing, counted from k
unfoldable pub each_from : {X Y : Type 0} → (X → Option Y) → ℕ → List X → Result (List Y) ℕ
each_from f k [] = Ok []
each_from f k (x ∷ xs) = put_front (f x) k (each_from f (k + 1) xs)

-- with the fault that names the place
abbrev pub with_fault : {X P E : Type 0} → (P → E) → Result X P → Result X E
with_fault fault (Ok x) = Ok x
with_fault fault (Err place) = Err (fault place)
