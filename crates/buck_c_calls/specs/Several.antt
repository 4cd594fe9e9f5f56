-- What the calls over several files answer: a text and a status.
use Rattle.std.specs.Prelude.{◌≡◌, ◌⊎◌, ℕ, List, [], ◌∷◌, map, length, Option, Some, Result, Ok, Err}
use Rattle.buckfleet_engine_files.specs.declared.fault.EngineFault.{EngineFault}
use Rattle.buckfleet_terms_files.specs.declared.fault.TermsFault.{TermsFault}
use Rattle.buckfleet_terms_files.specs.declared.fault.TermsFault.TheVariants.{Run, Targets, Own}
use Rattle.buckfleet_terms_files.specs.Faults.{no_memory, terms_line, terms_status}
use Rattle.buck_c_calls.specs.Books.{misused}
use Rattle.buck_c_calls.specs.Turns.{AreFiles}

-- files, one after the other: an instruction file, the file behind it, and those behind that, whose bytes are known
pub record AreHanded (lengths bytes apt other : List ℕ) (more : List (Option (List ℕ))) : Type 0 where
  pub files : List (List ℕ)
  pub are_files : AreFiles lengths bytes (apt ∷ other ∷ files)
  pub more_are : more ≡ map Some files

-- an answer over files that were handed over, to what was asked and may be asked of so many files behind the second
pub record IsAnswered {A : Type 0} (IsAsked : A → ℕ → Type 0)
    (Answers : A → List ℕ → List ℕ → List (Option (List ℕ)) → Result (List ℕ) TermsFault → Type 0)
    (lengths bytes : List ℕ) (answer : Result (List ℕ) TermsFault) : Type 0 where
  pub asked : A
  pub apt : List ℕ
  pub other : List ℕ
  pub more : List (Option (List ℕ))
  pub are_handed : AreHanded lengths bytes apt other more
  pub is_asked : IsAsked asked (length more)
  pub answers : Answers asked apt other more answer

-- a call is misused: there are no such files, or nothing was asked that may be asked of them
abbrev pub IsMisuse : {A : Type 0} → (A → ℕ → Type 0) → List ℕ → List ℕ → Type 0
IsMisuse {A} IsAsked lengths bytes =
    (asked : A) (apt other : List ℕ) (more : List (Option (List ℕ)))
    → AreHanded lengths bytes apt other more → IsAsked asked (length more) → ⊥

-- what a call answers, and the status that goes with it: a text; or of a fault its line; or nothing if it is
-- misused. Memory may run out in the place of any answer
abbrev pub AnswersCall : {A : Type 0} → (A → ℕ → Type 0)
    → (A → List ℕ → List ℕ → List (Option (List ℕ)) → Result (List ℕ) TermsFault → Type 0) → List ℕ → List ℕ
    → List ℕ → ℕ → Type 0
AnswersCall IsAsked Answers lengths bytes text status =
    (IsAnswered IsAsked Answers lengths bytes (Ok text) × (status ≡ 0))
    ⊎ (((fault : TermsFault) × ((fault ≡ no_memory) ⊎ IsAnswered IsAsked Answers lengths bytes (Err fault))
    × (text ≡ terms_line fault) × (status ≡ terms_status fault))
    ⊎ (IsMisuse IsAsked lengths bytes × (text ≡ []) × (status ≡ misused)))

-- an answer of an engine whose faults are all those of a run
abbrev pub InTerms : (Result (List ℕ) EngineFault → Type 0) → Result (List ℕ) TermsFault → Type 0
InTerms Answers (Ok text) = Answers (Ok text)
InTerms Answers (Err (Run fault)) = Answers (Err fault)
InTerms Answers (Err (Targets why)) = ⊥
InTerms Answers (Err (Own why)) = ⊥
