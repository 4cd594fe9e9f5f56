-- Standard input and standard output in the place of files.
use Rattle.std.specs.Prelude.{◌≡◌, ℕ, List, Option, None, codes}
use Rattle.std.specs.Option.{option_map}
use Rattle.buckfleet_command_streams.specs.declared.inputs.Opened.{Opened}
use Rattle.buckfleet_command_streams.specs.declared.inputs.Opened.TheVariants.{File, Input}
use Rattle.buckfleet_command_streams.specs.declared.inputs.Written.{Written}
use Rattle.buckfleet_command_streams.specs.declared.inputs.Written.TheVariants.{Made, Output}

-- what is left of a file; of standard input nothing is known
abbrev pub left_in : {F R : Type 0} → (F → Option (List ℕ)) → Opened F R → Option (List ℕ)
left_in held (File f) = held f
left_in held (Input drawn) = None

-- what stands in a file; of standard output nothing is known
abbrev pub stands_in : {M W : Type 0} → (M → Option (List ℕ)) → Written M W → Option (List ℕ)
stands_in contents (Made m) = contents m
stands_in contents (Output shared) = None

-- by each name but -, what another opens by it
abbrev pub OpensElse : {O F R : Type 0} → (O → List ℕ → Option F → O → Type 0) → O → List ℕ → Option (Opened F R) → O
    → Type 0
OpensElse {F = F} opens old name result new =
    ¬ (name ≡ codes "-") → (f : Option F) × (result ≡ option_map File f) × opens old name f new

-- by each name but -, what another makes by it
abbrev pub MakesElse : {O M W : Type 0} → (O → List ℕ → Option M → O → Type 0) → O → List ℕ → Option (Written M W) → O
    → Type 0
MakesElse {M = M} makes old name result new =
    ¬ (name ≡ codes "-") → (m : Option M) × (result ≡ option_map Made m) × makes old name m new
