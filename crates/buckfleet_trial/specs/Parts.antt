-- Work that is done in parts.
use Rattle.std.specs.Prelude.{◌≡◌, List, [], ◌∷◌, ◌++◌, Result, Ok, Err}
use Rattle.std.specs.declared.vec.Vec.{Vec}
use Rattle.std.specs.declared.alloc.Global.{Global}

-- what came of the parts, one after the other
abbrev pub AreJoined : {X E : Type 0} → List (Result (Vec X Global) E) → List X → Type 0
AreJoined [] all = all ≡ []
AreJoined (Ok part ∷ more) all = (rest : List _) × (all ≡ part.items ++ rest) × AreJoined more rest
AreJoined (Err e ∷ more) all = ⊥
