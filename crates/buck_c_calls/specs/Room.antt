-- What a call leaves in the caller's room.
use Rattle.std.specs.Prelude.{◌≡◌, ℕ, ◌<◌, ◌≤◌, List, ◌++◌, length, drop}

-- some items stand at the start of the room, with the rest as it was, and the status is their own; if the room is too
-- small nothing is written, and the status is 6. Either way their number is reported.
pub record IsPutAs {X : Type 0} (items : List X) (status : ℕ) (old new : List X) (written result : ℕ) : Type 0 where
  pub number_is : written ≡ length items
  pub fits : length items ≤ length old → (new ≡ items ++ drop (length items) old) × (result ≡ status)
  pub too_small : length old < length items → (new ≡ old) × (result ≡ 6)

-- some items and the status of an answer were put so
abbrev pub IsPut : {X : Type 0} → (List X → ℕ → Type 0) → List X → List X → ℕ → ℕ → Type 0
IsPut {X} Answer old new written result =
    (items : List X) × (status : ℕ) × Answer items status × IsPutAs items status old new written result
