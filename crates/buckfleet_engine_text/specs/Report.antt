-- The report of a closed fleet: what was cut and demanded, how each class stands at the end, and the totals.
use Rattle.std.specs.Prelude.{◌≡◌, ℕ, ◌+◌, ◌*◌, List, [], ◌∷◌, ◌++◌, length, sum_by, Option, Some, None, slice_index, codes}
use Rattle.std.specs.List.{flat_map, range_with_len}
use Rattle.buck_apt_instruction.specs.declared.class.Class.{Class}
use Rattle.buck_apt_instruction.specs.Instruction.{InstructionParts, AssortmentParts, index_of}
use Rattle.buck_record.specs.writing.Line.{line_of}
use Rattle.buck_record.specs.writing.Written.{spelled}
use Rattle.buck_book_postings.specs.declared.posting.Posting.{Posting}
use Rattle.buck_book_postings.specs.declared.posting.Posting.TheVariants.{Cut, Demand}
use Rattle.buck_book_postings.specs.Posting.{targets_of}
use Rattle.buck_book_postings.specs.Counts.{AreClassCounts}
use Rattle.buck_book_postings.specs.History.{HistoryParts, in_force}
use Rattle.buck_book_postings.specs.Degree.{part_of, degree_of}
use Rattle.buckfleet_engine_text.specs.Bucking.{named_line_of, total_line}

-- ENTRY <position> <harvester> <number> <version> <stem number> <number of logs> <worth>
-- DEMAND <position> <harvester> <number> <version>
abbrev pub posting_line : ℕ → Posting → List ℕ
posting_line at (Cut e) =
    line_of (codes "ENTRY") (at ∷ e.harvester ∷ e.number ∷ e.version ∷ e.stem.number ∷ length e.logs ∷ e.worth ∷ [])
posting_line at (Demand d) = line_of (codes "DEMAND") (at ∷ d.harvester ∷ d.number ∷ d.version ∷ [])

-- a line for each posting, of which the first stands at this position
abbrev pub posting_lines : ℕ → List Posting → List ℕ
posting_lines at [] = []
posting_lines at (x ∷ more) = posting_line at x ++ posting_lines (at + 1) more

-- how all classes stand at the end of a history
pub record EndingParts : Type 0 where
  pub instruction : InstructionParts
  pub targets : List ℕ  -- those in force
  pub counts : List ℕ  -- how many logs were cut in each class
  pub prices : List ℕ  -- of the last sheet

-- CLASS <assortment> <row> <column> <target> <count> <base price> <price in the last sheet>
unfoldable pub class_line : EndingParts → AssortmentParts → Class → List ℕ
class_line e a c =
    line_of
    (codes "CLASS")
    (c.assortment ∷ c.row ∷ c.column ∷ slice_index e.targets (index_of e.instruction c)
    ∷ slice_index e.counts (index_of e.instruction c)
    ∷ slice_index a.prices (c.row * length a.lengths + c.column) ∷ slice_index e.prices (index_of e.instruction c) ∷ [])

-- a line for each class of a row, and those of all rows of the assortment at a place
abbrev pub row_lines : EndingParts → AssortmentParts → ℕ → ℕ → List ℕ
row_lines e a at row =
    flat_map (λ column. class_line e a (record { assortment = at; row = row; column = column }))
    (range_with_len 0 (length a.lengths))

abbrev pub class_lines : EndingParts → AssortmentParts → ℕ → List ℕ
class_lines e a at = flat_map (λ row. row_lines e a at row) (range_with_len 0 (length a.diameters))

-- DEGREE <assortment> <degree or none> <assortment name>
abbrev pub degree_line : ℕ → Option ℕ → List ℕ → List ℕ
degree_line at (Some degree) name = named_line_of (codes "DEGREE") (at ∷ degree ∷ []) name
degree_line at None name = codes "DEGREE" ++ (spelled (at ∷ []) ++ named_line_of (codes " none") [] name)

-- the lines of the assortment at a place: those of its classes, then its degree
unfoldable pub assortment_lines : EndingParts → ℕ → AssortmentParts → List ℕ
assortment_lines e at a =
    class_lines e a at
    ++ degree_line at (degree_of (part_of e.instruction a at e.targets) (part_of e.instruction a at e.counts)) a.name

-- those of all assortments, of which the first stands at this place
abbrev pub all_lines : EndingParts → ℕ → List AssortmentParts → List ℕ
all_lines e at [] = []
all_lines e at (a ∷ more) = assortment_lines e at a ++ all_lines e (at + 1) more

-- what the cuts of a history are together
abbrev pub cuts_in : Posting → ℕ
cuts_in (Cut e) = 1
cuts_in (Demand d) = 0

abbrev pub logs_in : Posting → ℕ
logs_in (Cut e) = length e.logs
logs_in (Demand d) = 0

abbrev pub worth_in : Posting → ℕ
worth_in (Cut e) = e.worth
worth_in (Demand d) = 0

-- TOTAL <cuts> <logs> <worth>
abbrev pub totals_line : List Posting → List ℕ
totals_line ps = total_line (sum_by cuts_in ps) (sum_by logs_in ps) (sum_by worth_in ps)

-- the report of a history that ends so
abbrev pub report_of : List Posting → EndingParts → List ℕ
report_of ps e = posting_lines 0 ps ++ (all_lines e 0 e.instruction.assortments ++ totals_line ps)

-- the end of a history, given its class counts
abbrev pub ending_of : HistoryParts → List ℕ → EndingParts
ending_of h counts = record {
  instruction = h.instruction;
  targets = targets_of h.instruction h.postings;
  counts = counts;
  prices = (in_force h).prices;
}

-- the report of a history
pub record IsReport (h : HistoryParts) (text : List ℕ) : Type 0 where
  pub counts : List ℕ
  pub are_counts : AreClassCounts h.instruction h.postings counts
  pub text_is : text ≡ report_of h.postings (ending_of h counts)
