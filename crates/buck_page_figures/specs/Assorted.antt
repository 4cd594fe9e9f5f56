-- What the logs of each assortment come to.
use Rattle.std.specs.Prelude.{◌≡◌, ℕ, ◌==◌, cond, List, length, sum_by, slice_get, Some}
use Rattle.buck_apt_instruction.specs.Instruction.{InstructionParts}
use Rattle.buck_value.specs.declared.log.Log.{Log}
use Rattle.buck_value.specs.Allowed.{worth_of}
use Rattle.buck_book_postings.specs.declared.posting.Posting.{Posting}
use Rattle.buck_book_postings.specs.declared.posting.Posting.TheVariants.{Cut, Demand}
use Rattle.buck_book_postings.specs.Counts.{assortment_count_of}
use Rattle.buck_page_figures.specs.Figures.{base_sheet, log_volume}
use Rattle.buck_page_figures.specs.declared.figures.Part.{Part}

-- a number of some logs, over those of an assortment
abbrev pub sum_in_part : (Log → ℕ) → ℕ → List Log → ℕ
sum_in_part n a logs = sum_by (λ g. cond (g.assortment == a) (n g) 0) logs

-- the volume of a posting's logs of an assortment, their length, and what they are worth at base prices
abbrev pub part_volume_in : ℕ → Posting → ℕ
part_volume_in a (Cut e) = sum_in_part (log_volume e.stem) a e.logs
part_volume_in a (Demand d) = 0

abbrev pub part_logged_in : ℕ → Posting → ℕ
part_logged_in a (Cut e) = sum_in_part (λ g. g.length) a e.logs
part_logged_in a (Demand d) = 0

abbrev pub part_at_base_in : InstructionParts → ℕ → Posting → ℕ
part_at_base_in i a (Cut e) = sum_in_part (worth_of (base_sheet i) e.stem) a e.logs
part_at_base_in i a (Demand d) = 0

-- what the logs of an assortment come to, over some postings
pub record IsPart (i : InstructionParts) (ps : List Posting) (a : ℕ) (p : Part) : Type 0 where
  pub logs : p.logs ≡ assortment_count_of a ps
  pub volume : p.volume ≡ sum_by (part_volume_in a) ps
  pub logged : p.logged ≡ sum_by (part_logged_in a) ps
  pub at_base : p.at_base ≡ sum_by (part_at_base_in i a) ps

-- one for each assortment
pub record AreParts (i : InstructionParts) (ps : List Posting) (parts : List Part) : Type 0 where
  pub one_each : length parts ≡ length i.assortments
  pub each : (a : ℕ) (p : Part) → slice_get parts a ≡ Some p → IsPart i ps a p
