-- What the conditions of this crate say of a book.
use Rattle.std.specs.Prelude.{◌≡◌, ℕ, List}
use Rattle.std.specs.Fn.{FnReturnsAt}
use Rattle.buck_apt_instruction.specs.declared.class.Class.{Class}
use Rattle.buck_apt_instruction.specs.Instruction.{InstructionParts, IsClass, index_of}
use Rattle.buck_book_postings.specs.declared.posting.Posting.{Posting}
use Rattle.buck_book_postings.specs.Plan.{PlanParts}
use Rattle.buck_book_postings.specs.History.{standing_of}
use Rattle.buck_book_postings.specs.Pricing.{Calls}
use Rattle.buck_book_postings.specs.Walk.{WalkParts, passed, MeetsAfter}
use Rattle.buck_book_postings.specs.Book.{BookParts, postings_with, postings_with_demand}

-- a closure doesn't answer this price to how a class stands after some postings
abbrev pub IsNoAnswer : {F : Type 0} → Calls F → F → InstructionParts → Class → List Posting → ℕ → Type 0
IsNoAnswer g f i c ps price = (k : IsClass i c) → FnReturnsAt g f (standing_of i k.assortment c ps) price → ⊥

-- nor after a plan's entry by harvester 1
abbrev pub IsNoAnswerWith : {F : Type 0} → Calls F → BookParts F → PlanParts → Class → ℕ → Type 0
IsNoAnswerWith g b p c price = IsNoAnswer g b.rule b.history.instruction c (postings_with b.history 1 p) price

-- nor after a demand by harvester 1
abbrev pub IsNoAnswerWithDemand : {F : Type 0} → Calls F → BookParts F → List ℕ → Class → ℕ → Type 0
IsNoAnswerWithDemand g b targets c price =
    IsNoAnswer g b.rule b.history.instruction c (postings_with_demand b.history 1 targets) price

-- each class at this place has a price that keeps the price relation there
abbrev pub IsRightPriceAt : WalkParts → List ℕ → ℕ → Type 0
IsRightPriceAt w prices at =
    (c : Class) (k : IsClass w.instruction c)
    → index_of w.instruction c ≡ at
    → MeetsAfter w.instruction (passed w) prices c k
