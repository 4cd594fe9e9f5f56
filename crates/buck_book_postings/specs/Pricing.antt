-- Prices that a closure answers to how the classes stand.
use Rattle.std.specs.Prelude.{◌≡◌, ℕ, ◌+◌, List, take, slice_get, slice_index, Some}
use Rattle.std.specs.Fn.{FnReturnsAt}
use denote.Ref.{Bor}
use denote.Param.Members.{Shared}
use Rattle.buck_apt_instruction.specs.declared.class.Class.{Class}
use Rattle.buck_apt_instruction.specs.Instruction.{InstructionParts, IsClass, index_of}
use Rattle.buck_rule.specs.declared.standing.Standing.{Standing}
use Rattle.buck_book_postings.specs.declared.posting.Posting.{Posting}
use Rattle.buck_book_postings.specs.Plan.{PlanParts}
use Rattle.buck_book_postings.specs.History.{HistoryParts, IsEnd, prices_after, standing_of}
use Rattle.buck_book_postings.specs.Book.{postings_with, postings_with_demand}

-- what a closure's calls may do
abbrev pub Calls : Type 0 → Type 1
Calls F = Shared F (Bor Standing × Unit {0}) ℕ

-- each class's price is an answer that the closure can give to how the class stands after some postings
abbrev pub AreAnswers : {F : Type 0} → Calls F → F → InstructionParts → List Posting → List ℕ → Type 0
AreAnswers g f i ps prices =
    (c : Class) (k : IsClass i c)
    → FnReturnsAt g f (standing_of i k.assortment c ps) (slice_index prices (index_of i c))

-- so it is after a plan's entry, whoever commits it
abbrev pub AreAnswersWith : {F : Type 0} → Calls F → F → HistoryParts → PlanParts → List ℕ → Type 0
AreAnswersWith g f h p prices =
    (harvester : ℕ) → AreAnswers g f h.instruction (postings_with h harvester p) prices

-- and after a demand
abbrev pub AreAnswersWithDemand : {F : Type 0} → Calls F → F → HistoryParts → List ℕ → List ℕ → Type 0
AreAnswersWithDemand g f h targets prices =
    (harvester : ℕ) → AreAnswers g f h.instruction (postings_with_demand h harvester targets) prices

-- the prices of each sheet that came after an end are answers that a closure can give to how the classes then stood
pub record AreSheetsBy {F : Type 0} (g : Calls F) (f : F) (h : HistoryParts) : Type 0 where
  pub answers : (k : ℕ) (x : Posting)
      → slice_get h.postings k ≡ Some x
      → IsEnd h.instruction (take k h.postings) x
      → AreAnswers g f h.instruction (take (k + 1) h.postings) (prices_after h k)
