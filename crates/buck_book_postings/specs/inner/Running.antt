-- What some postings add up to, and running counts.
use Rattle.std.specs.Prelude.{◌≡◌, ℕ, ◌+◌, ◌*◌, ◌<◌, ◌≤◌, ◌==◌, List, [], ◌∷◌, ◌++◌, length, count_by, slice_index, unwrap_or}
use Rattle.std.specs.Ordering.{nat_cmp}
use Rattle.std.specs.BTreeMap.{get, BTreeMap}
use Rattle.buck_apt_instruction.specs.Instruction.{InstructionParts, IsInstruction}
use Rattle.buck_value.specs.declared.log.Log.{Log}
use Rattle.buck_value.specs.Sheet.{SheetParts}
use Rattle.buck_book_postings.specs.declared.posting.Posting.{Posting}
use Rattle.buck_book_postings.specs.declared.running.Running.{Running}
use Rattle.buck_book_postings.specs.Posting.{targets_of, ends_of, cuts_since_end}
use Rattle.buck_book_postings.specs.Targets.{AreTargets}
use Rattle.buck_book_postings.specs.Counts.{AreClassCounts, assortment_count_of, calls_of}
use Rattle.buck_book_postings.specs.History.{PricesMeet}
use Rattle.buck_book_postings.specs.Pricing.{Calls, AreAnswers}
use Rattle.buck_book_postings.specs.Book.{BookParts, IsBook, sheets_from}
use Rattle.buck_book_postings.specs.Walk.{WalkParts, passed}
use Rattle.buck_book_postings.specs.inner.Pricing.{StandingsParts}
use Rattle.buck_book_postings.specs.declared.posting.TheConstants.{MOST_POSTINGS}

-- the running counts of classes and assortments are the counts of some postings
pub record AreCounts (i : InstructionParts) (ps : List Posting) (by_class by_assortment : List ℕ) : Type 0 where
  pub classes : AreClassCounts i ps by_class
  pub assortments_number : length by_assortment ≡ length i.assortments
  pub assortment_counts : (a : ℕ) → a < length i.assortments → slice_index by_assortment a ≡ assortment_count_of a ps

-- no running count is above a number
pub record AreAtMost (most : ℕ) (by_class by_assortment : List ℕ) : Type 0 where
  pub class_counts : (k : ℕ) → slice_index by_class k ≤ most
  pub assortment_counts : (a : ℕ) → slice_index by_assortment a ≤ most

-- each count grew by how many things of a list are at its place
pub record AreGrownAt {X : Type 0} (place : X → ℕ) (before : List ℕ) (xs : List X) (after : List ℕ) : Type 0 where
  pub number : length after ≡ length before
  pub each : (k : ℕ) → slice_index after k ≡ slice_index before k + count_by (λ x. place x == k) xs

-- by how many logs are of its assortment
abbrev pub AreGrownBy : List ℕ → List Log → List ℕ → Type 0
AreGrownBy = AreGrownAt (λ g. g.assortment)

-- what prices are made by
abbrev pub standings_of : InstructionParts → Running → StandingsParts
standings_of i n = record {
  instruction = i;
  targets = n.targets.value.items;
  by_class = n.by_class.items;
  by_assortment = n.by_assortment.items;
}

-- it is what the history's definitions say of these postings
pub record Tells (i : InstructionParts) (ps : List Posting) (n : Running) : Type 0 where
  pub valid : IsInstruction i
  pub few : length ps ≤ MOST_POSTINGS
  pub targets_are : n.targets.value.items ≡ targets_of i ps
  pub targets_valid : AreTargets i n.targets.value.items
  pub cuts_are : n.cuts ≡ cuts_since_end i ps
  pub version_is : n.version ≡ ends_of i ps
  pub counts_are : AreCounts i ps n.by_class.items n.by_assortment.items
  pub counts_low : AreAtMost (80 * length ps) n.by_class.items n.by_assortment.items

-- some postings to which one may be added add up to it
abbrev pub GoesOn : InstructionParts → Running → Type 0
GoesOn i n = (ps : List Posting) × (length ps < MOST_POSTINGS) × Tells i ps n

-- with a posting more, some postings that added up to one thing add up to the other
abbrev pub IsAfter : InstructionParts → Running → Posting → Running → Type 0
IsAfter i before x after =
    (ps : List Posting) → length ps < MOST_POSTINGS → Tells i ps before → Tells i (ps ++ x ∷ []) after

-- what adds up to one thing adds up to the other
abbrev pub IsCopy : Running → Running → Type 0
IsCopy n m = (i : InstructionParts) (ps : List Posting) → Tells i ps n → Tells i ps m

-- the sheet in force after some postings, made there: its prices are answers to how the classes stand, and keep the
-- relation with it
pub record IsSheetAfter {F : Type 0} (g : Calls F) (f : F) (i : InstructionParts) (ps : List Posting)
    (s : SheetParts) : Type 0 where
  pub version_is : s.version ≡ ends_of i ps
  pub same_instruction : s.instruction ≡ i
  pub prices_meet : PricesMeet i ps s.prices
  pub answers : AreAnswers g f i ps s.prices

-- the running numbers of calls, by harvester from 1 to 64, are those of some postings
pub record AreCalls (ps : List Posting) (calls : List ℕ) : Type 0 where
  pub number : length calls ≡ 64
  pub each : (k : ℕ) → k < 64 → slice_index calls k ≡ calls_of (k + 1) ps

-- what a book keeps: its sheets are those of its prices, and all that runs on is what its history says
pub record Keeps {F : Type 0} (b : BookParts F) (sheets : List SheetParts) (n : Running) (calls : List ℕ) : Type 0 where
  pub is_book : IsBook b
  pub sheets_are : sheets ≡ sheets_from 0 b.history.instruction b.history.sheets
  pub tells : Tells b.history.instruction b.history.postings n
  pub calls_are : AreCalls b.history.postings calls

-- how many calls a harvester has, along a way
abbrev pub calls_in : BTreeMap ℕ ℕ → ℕ → ℕ
calls_in calls h = unwrap_or (get nat_cmp calls h) 0

-- what is kept beside the place is what the postings that were passed say
pub record IsWalk (w : WalkParts) (n : Running) (calls : ℕ → ℕ) : Type 0 where
  pub few : length w.postings ≤ MOST_POSTINGS
  pub within : w.at ≤ length w.postings
  pub tells : Tells w.instruction (passed w) n
  pub calls_are : (h : ℕ) → calls h ≡ calls_of h (passed w)
