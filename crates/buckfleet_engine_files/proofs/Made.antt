-- A file that may have been made for a call.
use Rattle.std.proofs.Common.{ℕ, List, Option, Some, None}
use Rattle.std.specs.Io.KnownBytes.{Keeps}
use Rattle.std.proofs.KnownBytes.{Keeps-refl}
use Rattle.buckfleet_engine_files.specs.Lent.{OfWriter, no_writer, of_made, of_writer}

-- nothing was written into the file that was made
pub nothing_made : {M : Type 0} (contents : M → Option (List ℕ)) (made : Option M) (P : OfWriter → Type 0)
    → ((o : OfWriter) → o Keeps → P o) → of_made contents made P
nothing_made contents None P so = so no_writer tt
nothing_made contents (Some made) P so = (made, so (of_writer (contents made) (contents made)) (Keeps-refl _))

pub made_so : {M : Type 0} (contents : M → Option (List ℕ)) (made : Option M) (P Q : OfWriter → Type 0)
    → ((o : OfWriter) → P o → Q o) → of_made contents made P → of_made contents made Q
made_so contents None P Q so p = so no_writer p
made_so contents (Some made) P Q so (left, p) = (left, so (of_writer (contents made) (contents left)) p)
