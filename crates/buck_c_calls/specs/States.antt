-- How a kept book stands, as a caller in another language sees it.
use Rattle.std.specs.Prelude.{◌≡◌, ◌⊎◌, ℕ, ◌≤◌, List, [], length, Option, Some, None}
use Rattle.buck_apt_instruction.specs.Instruction.{classes}
use Rattle.buck_book_postings.specs.Posting.{targets_of}
use Rattle.buck_book_postings.specs.Counts.{AreClassCounts}
use Rattle.buck_book_postings.specs.Degree.{IsDegree}
use Rattle.buck_book_postings.specs.History.{version_of, in_force}
use Rattle.buck_c_session.specs.Kept.{KeptParts}
use Rattle.buck_c_calls.specs.declared.state.State.{State}
use Rattle.buck_c_calls.specs.Books.{closed, misused}

-- what a call answers that only looks: nothing if the block holds no book
abbrev pub IsShownBy : {X : Type 0} → (KeptParts → List X → ℕ → Type 0) → Option KeptParts → List X → ℕ → Type 0
IsShownBy Answer None items status = (items ≡ []) × (status ≡ closed)
IsShownBy Answer (Some kept) items status = Answer kept items status

abbrev pub HasPrices : KeptParts → List ℕ → ℕ → Type 0
HasPrices kept items status = (items ≡ (in_force kept.history).prices) × (status ≡ 0)

abbrev pub HasTargets : KeptParts → List ℕ → ℕ → Type 0
HasTargets kept items status = (items ≡ targets_of kept.history.instruction kept.history.postings) × (status ≡ 0)

abbrev pub HasCounts : KeptParts → List ℕ → ℕ → Type 0
HasCounts kept items status = AreClassCounts kept.history.instruction kept.history.postings items × (status ≡ 0)

pub record IsStateOf (kept : KeptParts) (s : State) : Type 0 where
  pub postings : s.postings ≡ length kept.history.postings
  pub capacity : s.capacity ≡ kept.capacity
  pub version : s.version ≡ version_of kept.history
  pub assortments : s.assortments ≡ length kept.history.instruction.assortments
  pub classes_is : s.classes ≡ classes kept.history.instruction

abbrev pub AnswersState : Option KeptParts → State → State → ℕ → Type 0
AnswersState None old new status = (new ≡ old) × (status ≡ closed)
AnswersState (Some kept) old new status = IsStateOf kept new × (status ≡ 0)

-- the degree of an assortment, or a number in its place if there is none
abbrev pub no_degree : ℕ
no_degree = 4294967295

abbrev pub IsToldDegree : Option ℕ → ℕ → Type 0
IsToldDegree None told = told ≡ no_degree
IsToldDegree (Some degree) told = told ≡ degree

abbrev pub ShowsDegree : ℕ → KeptParts → ℕ → ℕ → ℕ → Type 0
ShowsDegree at kept old new status =
    ((status ≡ 0) × ((degree : Option ℕ) × IsDegree kept.history at degree × IsToldDegree degree new))
    ⊎ ((status ≡ misused) × (length kept.history.instruction.assortments ≤ at) × (new ≡ old))

abbrev pub AnswersDegree : ℕ → Option KeptParts → ℕ → ℕ → ℕ → Type 0
AnswersDegree at None old new status = (new ≡ old) × (status ≡ closed)
AnswersDegree at (Some kept) old new status = ShowsDegree at kept old new status
