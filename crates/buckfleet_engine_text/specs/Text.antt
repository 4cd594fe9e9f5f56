-- How a text grows by one stem, and one that is in pieces.
use Rattle.std.specs.Prelude.{ℕ, List}
use Rattle.std.specs.declared.vec.Vec.{Vec}
use Rattle.std.specs.List.{flat_map}

-- pieces, one behind the other
abbrev pub joined : {A : Type 0} → List (Vec ℕ A) → List ℕ
joined pieces = flat_map (λ piece. piece.items) pieces
