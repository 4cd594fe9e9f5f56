-- A history whose prices are what a named rule gives.
use Rattle.std.specs.Prelude.{◌≡◌, ℕ, ◌-◌, ◌≤◌, List, length, take, slice_index}
use Rattle.buck_apt_instruction.specs.declared.class.Class.{Class}
use Rattle.buck_apt_instruction.specs.Instruction.{InstructionParts, IsClass, index_of}
use Rattle.buck_rule.specs.Named.{price_by}
use Rattle.buck_book_postings.specs.declared.posting.Posting.{Posting}
use Rattle.buck_book_postings.specs.History.{HistoryParts, standing_of}
use Rattle.buck_book_journal.specs.Journal.{Begins, prices_then}
use Rattle.buck_rule.specs.declared.named.NamedRule.{NamedRule}

-- the price of a class is what a rule gives after some postings
abbrev pub IsByRule : NamedRule → (i : InstructionParts) → List Posting → List ℕ → (c : Class) → IsClass i c → Type 0
IsByRule rule i ps prices c k = slice_index prices (index_of i c) ≡ price_by rule (standing_of i k.assortment c ps)

-- so is the price of each class, wherever a period begins: at the opening and after each end
abbrev pub ArePricesAt : NamedRule → HistoryParts → ℕ → Type 0
ArePricesAt rule h at =
    Begins h at
    → (c : Class) (k : IsClass h.instruction c)
    → IsByRule rule h.instruction (take at h.postings) (prices_then h at) c k

abbrev pub FollowsRule : NamedRule → HistoryParts → Type 0
FollowsRule rule h = (at : ℕ) → at ≤ length h.postings → ArePricesAt rule h at
