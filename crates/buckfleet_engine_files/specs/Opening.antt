-- Which files are opened and made.
use Rattle.std.specs.Prelude.{◌≡◌, ◌⊎◌, ◌<◌, ◌+◌, ℕ, min, List, [], ◌∷◌, length, take, slice_index_or, Option, Some, None, Result, Ok, Err}
use Rattle.std.specs.declared.vec.Vec.{Vec}
use Rattle.buckfleet_engine_files.specs.declared.fault.EngineFault.{EngineFault}
use Rattle.buckfleet_engine_files.specs.declared.fault.EngineFault.TheVariants.{Read, Write, Memory}

-- both files are opened by their names, that of the instruction first
pub record OpensBoth {O F : Type 0} (opens : O → List ℕ → Option F → O → Type 0) (old new : O)
    (apt stm : List ℕ) (files : F × F) : Type 0 where
  pub between : O
  pub first : opens old apt (Some files.0) between
  pub second : opens between stm (Some files.1) new

-- the instruction file is opened, and the stem file can't be
pub record OpensOne {O F : Type 0} (opens : O → List ℕ → Option F → O → Type 0) (old new : O)
    (apt stm : List ℕ) : Type 0 where
  pub between : O
  pub file : F
  pub first : opens old apt (Some file) between
  pub second : opens between stm None new

-- both files, or that one can't be read: the first that can't be opened
abbrev pub AnswersOpening : {O F : Type 0} → (O → List ℕ → Option F → O → Type 0) → O → O → List ℕ → List ℕ
    → Result (F × F) EngineFault → Type 0
AnswersOpening opens old new apt stm (Ok files) = OpensBoth opens old new apt stm files
AnswersOpening opens old new apt stm (Err fault) =
    ((fault ≡ Read 0) × opens old apt None new) ⊎ ((fault ≡ Read 1) × OpensOne opens old new apt stm)

-- files are opened by their names, one after the other
abbrev pub OpensEach : {O F : Type 0} → (O → List ℕ → Option F → O → Type 0) → O → O → List (List ℕ) → List F
    → Type 0
OpensEach opens old new [] [] = new ≡ old
OpensEach opens old new [] (file ∷ files) = ⊥
OpensEach opens old new (name ∷ names) [] = ⊥
OpensEach opens old new (name ∷ names) (file ∷ files) =
    (between : _) × opens old name (Some file) between × OpensEach opens between new names files

-- the files before a place are opened, and the one at the place can't be
pub record OpensUpTo {O F : Type 0} (opens : O → List ℕ → Option F → O → Type 0) (old new : O)
    (names : List (List ℕ)) (place : ℕ) : Type 0 where
  pub exists : place < length names
  pub files : List F
  pub between : O
  pub before : OpensEach opens old between (take place names) files
  pub missing : opens between (slice_index_or names place []) None new

-- all stem files, or that one can't be read: the first that can't be opened, by its number, from 1
abbrev pub AnswersAll : {O F : Type 0} → (O → List ℕ → Option F → O → Type 0) → O → O → List (List ℕ)
    → Result (List F) EngineFault → Type 0
AnswersAll opens old new names (Ok files) = OpensEach opens old new names files
AnswersAll opens old new names (Err (Read file)) =
    (place : ℕ) × (file ≡ min (place + 1) 4294967295) × OpensUpTo opens old new names place
AnswersAll opens old new names (Err Memory) = Unit {0}
AnswersAll opens old new names (Err _) = ⊥

-- the instruction file is opened, and then the stem files
pub record OpensFirst {O F : Type 0} (opens : O → List ℕ → Option F → O → Type 0) (old new : O)
    (apt : List ℕ) (stms : List (List ℕ)) (first : F) (rest : Result (List F) EngineFault) : Type 0 where
  pub between : O
  pub opened : opens old apt (Some first) between
  pub others : AnswersAll opens between new stms rest

-- the instruction file and all stem files, or that one can't be read: the first that can't be opened
abbrev pub AnswersInputs : {O F : Type 0} → (O → List ℕ → Option F → O → Type 0) → O → O → List ℕ → List (List ℕ)
    → Result (F × List F) EngineFault → Type 0
AnswersInputs opens old new apt stms (Ok files) = OpensFirst opens old new apt stms files.0 (Ok files.1)
AnswersInputs opens old new apt stms (Err fault) =
    ((fault ≡ Read 0) × opens old apt None new)
    ⊎ ((first : _) × OpensFirst opens old new apt stms first (Err fault))

abbrev pub both_listed : {X Y A E : Type 0} → Result (X × Vec Y A) E → Result (X × List Y) E
both_listed (Ok both) = Ok (both.0, both.1.items)
both_listed (Err e) = Err e

-- if a journal is wanted, its file is made by its name; if that can't be, it is a write fault
abbrev pub MakesJournal : {O M : Type 0} → (O → List ℕ → Option M → O → Type 0) → O → O → Option (List ℕ)
    → Result (Option M) EngineFault → Type 0
MakesJournal makes old new None (Ok None) = new ≡ old
MakesJournal makes old new None (Ok (Some made)) = ⊥
MakesJournal makes old new None (Err fault) = ⊥
MakesJournal makes old new (Some name) (Ok None) = ⊥
MakesJournal makes old new (Some name) (Ok (Some made)) = makes old name (Some made) new
MakesJournal makes old new (Some name) (Err fault) = (fault ≡ Write) × makes old name None new
