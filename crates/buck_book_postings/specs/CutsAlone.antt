-- Histories of cuts alone, in which no demand stands: what a lawful one is in words that know of no demand. Only the
-- law that both say the same leads here.
use Rattle.std.specs.Prelude.{◌≡◌, ℕ, ◌+◌, ◌*◌, ◌/◌, ◌<◌, ◌==◌, List, length, take, sum, sum_by, count_by, slice_index, slice_get, Some, map}
use Rattle.buck_apt_instruction.specs.declared.class.Class.{Class}
use Rattle.buck_apt_instruction.specs.Instruction.{InstructionParts, AssortmentParts, IsClass, classes, index_of}
use Rattle.buck_rule.specs.declared.standing.Standing.{Standing}
use Rattle.buck_rule.specs.Relation.{Meets}
use Rattle.buck_dp.specs.Best.{IsBest, cutting_worth}
use Rattle.buck_book_postings.specs.declared.posting.Posting.TheVariants.{Cut}
use Rattle.buck_book_postings.specs.Entry.{EntryParts}
use Rattle.buck_book_postings.specs.Counts.{class_logs, assortment_logs}
use Rattle.buck_book_postings.specs.History.{HistoryParts, prices_at, sheet_at}

-- the place of a class in its assortment, row by row
abbrev pub place_in : AssortmentParts → Class → ℕ
place_in a c = c.row * length a.lengths + c.column

-- how a class of an assortment stands after some entries
abbrev pub standing_of : InstructionParts → AssortmentParts → Class → List EntryParts → Standing
standing_of i a c es = record {
  base = slice_index a.prices (place_in a c);
  limit = i.limit;
  target = slice_index a.targets (place_in a c);
  targets = sum a.targets;
  count = sum_by (λ e. class_logs i c e.stem e.logs) es;
  counts = sum_by (λ e. assortment_logs c.assortment e.logs) es;
}

-- one price for each class, each in the price relation with the counts of some entries
pub record PricesMeet (i : InstructionParts) (es : List EntryParts) (prices : List ℕ) : Type 0 where
  pub one_each : length prices ≡ classes i
  pub each_meets : (c : Class) (k : IsClass i c)
      → Meets (standing_of i k.assortment c es) (slice_index prices (index_of i c))

-- an entry may follow some entries
pub record Follows (i : InstructionParts) (sheets : List (List ℕ)) (before : List EntryParts)
    (e : EntryParts) : Type 0 where
  pub number_is_next : e.number ≡ count_by (λ x. x.harvester == e.harvester) before + 1
  pub version_in_force : e.version ≡ length before / i.period
  pub best : IsBest (sheet_at i sheets e.version) e.stem e.logs
  pub worth_is : e.worth ≡ cutting_worth (sheet_at i sheets e.version) e.stem e.logs

-- a lawful history: one sheet more than full periods, each sheet's prices in the relation with the entries before it,
-- and each entry may follow those before it
pub record IsLawful (i : InstructionParts) (sheets : List (List ℕ)) (es : List EntryParts) : Type 0 where
  pub sheets_number : length sheets ≡ length es / i.period + 1
  pub sheets_meet : (v : ℕ) → v < length sheets → PricesMeet i (take (v * i.period) es) (prices_at sheets v)
  pub entries_follow : (k : ℕ) (e : EntryParts) → slice_get es k ≡ Some e → Follows i sheets (take k es) e

-- the history of these sheets and entries, in which no demand stands
abbrev pub history_of : InstructionParts → List (List ℕ) → List EntryParts → HistoryParts
history_of i sheets es = record { instruction = i; sheets = sheets; postings = map Cut es }
