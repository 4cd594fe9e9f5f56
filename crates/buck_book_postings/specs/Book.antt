-- A book as clauses see it, and what a prepared commit has to be.
use Rattle.std.specs.Prelude.{◌≡◌, ℕ, ◌+◌, ◌<◌, ◌≤◌, List, [], ◌∷◌, ◌++◌, length, slice_get, Option, Some, MatchOption}
use Rattle.buck_apt_instruction.specs.Instruction.{InstructionParts, IsInstruction, IsWithin}
use Rattle.buck_stem_shape.specs.Stem.{StemParts, IsStem}
use Rattle.buck_value.specs.declared.log.Log.{Log}
use Rattle.buck_value.specs.Sheet.{SheetParts, sheet_of}
use Rattle.buck_dp.specs.Best.{IsFirstBest}
use Rattle.buck_book_postings.specs.declared.posting.Posting.{Posting}
use Rattle.buck_book_postings.specs.declared.posting.Posting.TheVariants.{Cut, Demand}
use Rattle.buck_book_postings.specs.Entry.{EntryParts, DemandParts}
use Rattle.buck_book_postings.specs.Posting.{harvester_of}
use Rattle.buck_book_postings.specs.Plan.{PlanParts}
use Rattle.buck_book_postings.specs.Targets.{AreTargets}
use Rattle.buck_book_postings.specs.Counts.{calls_of}
use Rattle.buck_book_postings.specs.History.{HistoryParts, IsLawful, IsEnd, IsNextSheet, sheet_at, version_of, in_force}
use Rattle.buck_book_postings.specs.declared.posting.TheConstants.{MOST_POSTINGS}

pub record BookParts (F : Type 0) : Type 0 where
  pub rule : F  -- the closure
  pub history : HistoryParts
  pub capacity : ℕ  -- how many postings it may have
  pub room : ℕ  -- how many postings it has memory for
  pub sheet_room : ℕ  -- how many sheets it has memory for

abbrev pub book_of : {F : Type 0} → F → InstructionParts → List (List ℕ) → List Posting → ℕ → ℕ → ℕ → BookParts F
book_of rule i sheets postings capacity room sheet_room = record {
  rule = rule;
  history = record { instruction = i; sheets = sheets; postings = postings };
  capacity = capacity;
  room = room;
  sheet_room = sheet_room;
}

-- the sheets of these prices, from a version on
abbrev pub sheets_from : ℕ → InstructionParts → List (List ℕ) → List SheetParts
sheets_from version i [] = []
sheets_from version i (prices ∷ more) = sheet_of version i prices ∷ sheets_from (version + 1) i more

-- what a book keeps of a cut besides being best: a valid stem, and the first of the best cuttings
abbrev pub IsFirst : HistoryParts → Posting → Type 0
IsFirst h (Cut e) =
    IsStem e.stem × IsFirstBest (sheet_at h.instruction h.sheets e.version) e.stem e.logs
IsFirst h (Demand d) = Unit {0}

-- what is true of every book: its history is lawful, each cutting is the first of the best, and the harvesters are
-- from 1 to 64
pub record IsBook {F : Type 0} (b : BookParts F) : Type 0 where
  pub valid : IsInstruction b.history.instruction
  pub lawful : IsLawful b.history
  pub firsts : (k : ℕ) (x : Posting) → slice_get b.history.postings k ≡ Some x → IsFirst b.history x
  pub harvesters : (k : ℕ) (x : Posting)
      → slice_get b.history.postings k ≡ Some x → IsWithin 1 64 (harvester_of x)
  pub within : length b.history.postings ≤ b.capacity
  pub capacity_range : b.capacity ≤ MOST_POSTINGS

-- the entry of a plan that a harvester commits next
abbrev pub entry_of : HistoryParts → ℕ → PlanParts → EntryParts
entry_of h harvester p = record {
  harvester = harvester;
  number = calls_of harvester h.postings + 1;
  stem = p.stem;
  version = version_of h;
  logs = p.logs;
  worth = p.worth;
}

-- the demand of these targets that a harvester commits next
abbrev pub demand_of : HistoryParts → ℕ → List ℕ → DemandParts
demand_of h harvester targets = record {
  harvester = harvester;
  number = calls_of harvester h.postings + 1;
  version = version_of h;
  targets = targets;
}

-- the postings after it
abbrev pub postings_with : HistoryParts → ℕ → PlanParts → List Posting
postings_with h harvester p = h.postings ++ Cut (entry_of h harvester p) ∷ []

abbrev pub postings_with_demand : HistoryParts → ℕ → List ℕ → List Posting
postings_with_demand h harvester targets = h.postings ++ Demand (demand_of h harvester targets) ∷ []

-- a next sheet is there exactly if a posting is an end
abbrev pub IsNext : HistoryParts → Posting → Option SheetParts → Type 0
IsNext h x next =
    MatchOption next
    (IsEnd h.instruction h.postings x → ⊥)
    (λ s. IsEnd h.instruction h.postings x × IsNextSheet h x s)

-- a posting can be added, whoever commits it: the book is below its capacity, has memory for the posting and for a next
-- sheet, and that is there if the posting is an end, and is right
pub record IsReadyToAdd {F : Type 0} (b : BookParts F) (x : ℕ → Posting) (next : Option SheetParts) : Type 0 where
  pub below : length b.history.postings < b.capacity
  pub next_is : (harvester : ℕ) → IsNext b.history (x harvester) next
  pub posting_room : length b.history.postings < b.room
  pub sheet_room : MatchOption next (Unit {0}) (λ _. length b.history.sheets < b.sheet_room)

-- what a prepared commit holds
pub record ReadyParts : Type 0 where
  pub stem : StemParts
  pub logs : List Log
  pub next : Option SheetParts

-- it was prepared for this plan by this book, with no commit since: the plan's sheet is the one in force, and what is
-- stored is the plan's
pub record IsReadyFor {F : Type 0} (b : BookParts F) (r : ReadyParts) (p : PlanParts) : Type 0 where
  pub to_add : IsReadyToAdd b (λ harvester. Cut (entry_of b.history harvester p)) r.next
  pub sheet_in_force : p.sheet ≡ in_force b.history
  pub same_stem : r.stem ≡ p.stem
  pub same_logs : r.logs ≡ p.logs

-- what a prepared demand holds
pub record ReadyDemandParts : Type 0 where
  pub targets : List ℕ
  pub next : SheetParts

-- it was prepared by this book, with no commit since, and its targets are valid
pub record IsReadyDemand {F : Type 0} (b : BookParts F) (r : ReadyDemandParts) : Type 0 where
  pub to_add : IsReadyToAdd b (λ harvester. Demand (demand_of b.history harvester r.targets)) (Some r.next)
  pub valid : AreTargets b.history.instruction r.targets

-- all is the same but the memory that is held ready, and none of that is given back
pub record SameContent {F : Type 0} (before after : BookParts F) : Type 0 where
  pub rule : after.rule ≡ before.rule
  pub history : after.history ≡ before.history
  pub capacity : after.capacity ≡ before.capacity
  pub room : before.room ≤ after.room
  pub sheet_room : before.sheet_room ≤ after.sheet_room
