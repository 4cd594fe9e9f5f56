-- How a text grows by one stem, and one that is in pieces.
use Rattle.std.specs.Prelude.{ℕ, List, Result, Ok, Err}
use Rattle.std.specs.declared.vec.Vec.{Vec}
use Rattle.buckfleet_engine_text.specs.Text.{joined}

-- the text that an answer has in pieces
abbrev pub joined_in : {A B E : Type 0} → Result (Vec (Vec ℕ A) B) E → Result (List ℕ) E
joined_in (Ok pieces) = Ok (joined pieces.items)
joined_in (Err e) = Err e
