-- A kept book as clauses see it, and what each call leaves.
use Rattle.std.specs.Prelude.{◌≡◌, ℕ, List, slice_index}
use Rattle.buck_apt_instruction.specs.declared.class.Class.{Class}
use Rattle.buck_apt_instruction.specs.Instruction.{InstructionParts, IsClass, index_of}
use Rattle.buck_rule.specs.Named.{price_by}
use Rattle.buck_book_postings.specs.History.{HistoryParts, standing_of}
use Rattle.buck_book_postings.specs.declared.demand.DemandRefusal.{DemandRefusal}
use Rattle.buck_book_postings.specs.Refused.{IsDemandRefusal}
use Rattle.buck_book_cutter.specs.Cut.{OfPrices, opening}
use Rattle.buck_rule.specs.declared.named.NamedRule.{NamedRule}

-- each price of a sheet is what a named rule gives after some postings
abbrev pub ArePricesBy : NamedRule → OfPrices
ArePricesBy rule i ps prices =
    (c : Class) (k : IsClass i c)
    → slice_index prices (index_of i c) ≡ price_by rule (standing_of i k.assortment c ps)

pub record KeptParts : Type 0 where
  pub rule : NamedRule
  pub history : HistoryParts
  pub capacity : ℕ  -- how many postings it may have

-- a book with no posting and the base sheet
abbrev pub opened : NamedRule → InstructionParts → ℕ → KeptParts
opened rule instruction capacity = record { rule = rule; history = opening instruction; capacity = capacity }

-- why targets are refused: a full history refuses all, one below its capacity those that aren't valid
abbrev pub IsDemandRefused : HistoryParts → ℕ → List ℕ → DemandRefusal → Type 0
IsDemandRefused h capacity targets fault =
    IsDemandRefusal {F = Unit {0}}
    (record { rule = tt; history = h; capacity = capacity; room = 0; sheet_room = 0 }) targets fault

-- two books differ in nothing but their histories
pub record SameTerms (before after : KeptParts) : Type 0 where
  pub rule : after.rule ≡ before.rule
  pub capacity : after.capacity ≡ before.capacity
