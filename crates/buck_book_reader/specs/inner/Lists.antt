-- Vectors of vectors, as lists of lists.
use Rattle.std.specs.Prelude.{List, map, Result, Ok, Err}
use Rattle.std.specs.declared.vec.Vec.{Vec}

abbrev pub lists_in : {X A B E : Type 0} → Result (Vec (Vec X A) B) E → Result (List (List X)) E
lists_in (Ok v) = Ok (map (λ w. w.items) v.items)
lists_in (Err e) = Err e
