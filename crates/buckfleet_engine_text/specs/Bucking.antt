-- The text of a bucking: what is cut from each stem, and the total.
use Rattle.std.specs.Prelude.{◌≡◌, ℕ, List, [], ◌∷◌, ◌++◌, length, map, sum_by, All, slice_get, Option, Some, None, codes}
use Rattle.std.specs.List.{flat_map}
use Rattle.buck_apt_instruction.specs.Instruction.{InstructionParts, AssortmentParts}
use Rattle.buck_stem_shape.specs.Stem.{StemParts, stem_length}
use Rattle.buck_value.specs.declared.log.Log.{Log}
use Rattle.buck_value.specs.Sheet.{SheetParts, sheet_of, base_prices}
use Rattle.buck_value.specs.Allowed.{class_of, top_diameter, worth_of}
use Rattle.buck_record.specs.writing.Line.{line_of}
use Rattle.buck_record.specs.writing.Written.{spelled}
use Rattle.buck_dp.specs.Best.{IsFirstBest, cutting_worth}

-- a stem and the logs that are cut from it
pub record CutStem : Type 0 where
  pub stem : StemParts
  pub logs : List Log

-- the sheet of the base prices
abbrev pub base_sheet : InstructionParts → SheetParts
base_sheet i = sheet_of 0 i (base_prices i)

abbrev pub name_in : Option AssortmentParts → List ℕ
name_in None = []
name_in (Some a) = a.name

-- the name of a log's assortment, as it stands in the instruction
abbrev pub name_of : InstructionParts → Log → List ℕ
name_of i g = name_in (slice_get i.assortments g.assortment)

-- words, then each number after a space, and last a name after a space
abbrev pub named_line_of : List ℕ → List ℕ → List ℕ → List ℕ
named_line_of words numbers name = words ++ (spelled numbers ++ (codes " " ++ (name ++ codes "\n")))

-- LOG <start> <length> <top diameter> <row> <column> <worth> <assortment name>
unfoldable pub log_line : SheetParts → StemParts → Log → List ℕ
log_line sheet stem g =
    named_line_of
    (codes "LOG")
    (g.start ∷ g.length ∷ top_diameter stem g
    ∷ (class_of sheet.instruction stem g).row ∷ (class_of sheet.instruction stem g).column
    ∷ worth_of sheet stem g ∷ [])
    (name_of sheet.instruction g)

-- STEM <stem number> <stem length> <number of logs> <worth>
unfoldable pub stem_line : StemParts → ℕ → ℕ → List ℕ
stem_line stem logs worth = line_of (codes "STEM") (stem.number ∷ stem_length stem.samples ∷ logs ∷ worth ∷ [])

-- the lines of a stem: its own, and one for each log
unfoldable pub stem_lines : SheetParts → CutStem → List ℕ
stem_lines sheet cut =
    stem_line cut.stem (length cut.logs) (cutting_worth sheet cut.stem cut.logs)
    ++ flat_map (log_line sheet cut.stem) cut.logs

-- all logs, and their worth
abbrev pub logs_of : List CutStem → ℕ
logs_of cuts = sum_by (λ cut. length cut.logs) cuts

abbrev pub worth_of_all : SheetParts → List CutStem → ℕ
worth_of_all sheet cuts = sum_by (λ cut. cutting_worth sheet cut.stem cut.logs) cuts

-- TOTAL <stems> <logs> <worth>
unfoldable pub total_line : ℕ → ℕ → ℕ → List ℕ
total_line stems logs worth = line_of (codes "TOTAL") (stems ∷ logs ∷ worth ∷ [])

-- the lines of each stem, then the total
abbrev pub text_of : SheetParts → List CutStem → List ℕ
text_of sheet cuts =
    flat_map (stem_lines sheet) cuts ++ total_line (length cuts) (logs_of cuts) (worth_of_all sheet cuts)

-- each stem is cut by the first of its best cuttings
abbrev pub IsBucking : SheetParts → List StemParts → List CutStem → Type 0
IsBucking sheet stems cuts = (map (λ cut. cut.stem) cuts ≡ stems)
    × All (λ cut. IsFirstBest sheet cut.stem cut.logs) cuts

-- the text of the stems, bucked under a sheet
pub record IsTextUnder (sheet : SheetParts) (stems : List StemParts) (text : List ℕ) : Type 0 where
  pub cuts : List CutStem
  pub bucking : IsBucking sheet stems cuts
  pub lines : text ≡ text_of sheet cuts

-- the text of the stems, bucked under the base prices
abbrev pub IsBuckText : InstructionParts → List StemParts → List ℕ → Type 0
IsBuckText i stems text = IsTextUnder (base_sheet i) stems text
