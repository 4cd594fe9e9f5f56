-- What one call adds to the history of a book: a cut, or new targets, and the next sheet if the period ends.
use Rattle.std.specs.Prelude.{◌≡◌, ◌≤◌, ◌<◌, ℕ, List, [], ◌∷◌, ◌++◌, Option, IfSome}
use Rattle.buck_apt_instruction.specs.Instruction.{InstructionParts}
use Rattle.buck_stem_shape.specs.Stem.{StemParts}
use Rattle.buck_value.specs.Sheet.{SheetParts, base_prices}
use Rattle.buck_book_postings.specs.declared.posting.Posting.{Posting}
use Rattle.buck_book_postings.specs.declared.posting.Posting.TheVariants.{Cut, Demand}
use Rattle.buck_book_postings.specs.Entry.{EntryParts, DemandParts}
use Rattle.buck_book_postings.specs.Plan.{PlanParts, IsPlan}
use Rattle.buck_book_postings.specs.Targets.{AreTargets}
use Rattle.buck_book_postings.specs.History.{HistoryParts, in_force, history_with}
use Rattle.buck_book_postings.specs.Pricing.{Calls, AreSheetsBy}
use Rattle.buck_book_postings.specs.Book.{BookParts, entry_of, demand_of, IsNext}

-- what is known of the prices of a sheet that comes into force after some postings
abbrev pub OfPrices : Type 1
OfPrices = InstructionParts → List Posting → List ℕ → Type 0

-- nothing is said of them
abbrev pub AnyPrices : OfPrices
AnyPrices i ps prices = Unit {0}

-- the history before any posting: the base sheet is in force
abbrev pub opening : InstructionParts → HistoryParts
opening i = record { instruction = i; sheets = base_prices i ∷ []; postings = [] }

-- one posting more, and exactly if it is an end a next sheet, of whose prices this holds
pub record HasAdded (ArePrices : OfPrices) (x : Posting) (before after : HistoryParts) : Type 0 where
  pub next : Option SheetParts
  pub next_is : IsNext before x next
  pub by_rule : IfSome next (λ s. ArePrices before.instruction (before.postings ++ x ∷ []) s.prices)
  pub after_is : after ≡ history_with before x next

-- a harvester cut a stem: its entry has the first of the best cuttings under the sheet in force, and was added
pub record HasCut (ArePrices : OfPrices) (harvester : ℕ) (stem : StemParts) (before after : HistoryParts)
    (entry : EntryParts) : Type 0 where
  pub who : (0 < harvester) × (harvester ≤ 64)
  pub plan : PlanParts
  pub is_plan : IsPlan plan
  pub same_stem : plan.stem ≡ stem
  pub sheet_in_force : plan.sheet ≡ in_force before
  pub entry_is : entry ≡ entry_of before harvester plan
  pub added : HasAdded ArePrices (Cut entry) before after

-- a harvester put valid targets in force
pub record HasRetargeted (ArePrices : OfPrices) (harvester : ℕ) (targets : List ℕ) (before after : HistoryParts)
    (demand : DemandParts) : Type 0 where
  pub who : (0 < harvester) × (harvester ≤ 64)
  pub valid : AreTargets before.instruction targets
  pub demand_is : demand ≡ demand_of before harvester targets
  pub added : HasAdded ArePrices (Demand demand) before after

-- a book stays by its rule: if the prices of each sheet after an end were answers of its closure, they still are
abbrev pub StaysByRule : {F : Type 0} → Calls F → BookParts F → BookParts F → Type 0
StaysByRule g before after = AreSheetsBy g before.rule before.history → AreSheetsBy g after.rule after.history
