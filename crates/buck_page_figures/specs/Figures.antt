-- The figures of a journal: what each posting comes to, as it was cut and as the best cuttings at base prices.
use Rattle.std.specs.Prelude.{◌≡◌, ℕ, List, length, sum_by, slice_get, Some}
use Rattle.buck_apt_instruction.specs.Instruction.{InstructionParts}
use Rattle.buck_stem_shape.specs.Stem.{StemParts, stem_length}
use Rattle.buck_value.specs.declared.log.Log.{Log}
use Rattle.buck_value.specs.Sheet.{SheetParts, sheet_of, base_prices}
use Rattle.buck_value.specs.Allowed.{top_diameter, trim_of}
use Rattle.buck_value.specs.Volume.{volume}
use Rattle.buck_dp.specs.Best.{IsFirstBest, cutting_worth}
use Rattle.buck_book_postings.specs.declared.posting.Posting.{Posting}
use Rattle.buck_book_postings.specs.declared.posting.Posting.TheVariants.{Cut, Demand}
use Rattle.buck_book_postings.specs.Entry.{EntryParts}

-- the sheet of the base prices
abbrev pub base_sheet : InstructionParts → SheetParts
base_sheet i = sheet_of 0 i (base_prices i)

-- the volume of a log of a stem, in cubic centimetres
abbrev pub log_volume : StemParts → Log → ℕ
log_volume stem g = volume (top_diameter stem g) g.length

-- a cut as a posting
abbrev pub as_posting : EntryParts → Posting
as_posting e = Cut e

-- what a posting comes to: whether it is a cut or a demand, and of a cut its logs, their volume and length, the length
-- of the stem and of the trim, and its worth under the prices in force and at base prices
abbrev pub cuts_in : Posting → ℕ
cuts_in (Cut e) = 1
cuts_in (Demand d) = 0

abbrev pub demands_in : Posting → ℕ
demands_in (Cut e) = 0
demands_in (Demand d) = 1

abbrev pub logs_in : Posting → ℕ
logs_in (Cut e) = length e.logs
logs_in (Demand d) = 0

abbrev pub volume_in : Posting → ℕ
volume_in (Cut e) = sum_by (log_volume e.stem) e.logs
volume_in (Demand d) = 0

abbrev pub length_in : Posting → ℕ
length_in (Cut e) = stem_length e.stem.samples
length_in (Demand d) = 0

abbrev pub logged_in : Posting → ℕ
logged_in (Cut e) = sum_by (λ g. g.length) e.logs
logged_in (Demand d) = 0

abbrev pub trim_in : InstructionParts → Posting → ℕ
trim_in i (Cut e) = sum_by (trim_of i) e.logs
trim_in i (Demand d) = 0

abbrev pub worth_in : Posting → ℕ
worth_in (Cut e) = e.worth
worth_in (Demand d) = 0

abbrev pub at_base_in : InstructionParts → Posting → ℕ
at_base_in i (Cut e) = cutting_worth (base_sheet i) e.stem e.logs
at_base_in i (Demand d) = 0

-- the same posting unsteered: the stem has its first best cutting at base prices
abbrev pub IsUnsteered : InstructionParts → Posting → Posting → Type 0
IsUnsteered i (Cut e) (Cut u) =
    (u.harvester ≡ e.harvester)
    × (u.stem ≡ e.stem)
    × IsFirstBest (base_sheet i) e.stem u.logs
    × (u.worth ≡ cutting_worth (base_sheet i) e.stem u.logs)
IsUnsteered i (Demand d) (Demand u) = u ≡ d
IsUnsteered i (Cut e) (Demand u) = ⊥
IsUnsteered i (Demand d) (Cut u) = ⊥

-- all postings of a history unsteered, one for one
pub record AreUnsteered (i : InstructionParts) (ps us : List Posting) : Type 0 where
  pub same_number : length us ≡ length ps
  pub each : (k : ℕ) (x u : Posting) → slice_get ps k ≡ Some x → slice_get us k ≡ Some u → IsUnsteered i x u
