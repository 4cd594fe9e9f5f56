-- The lines of a table, and what that of a run says of its history.
use Rattle.std.specs.Prelude.{◌≡◌, ◌≤◌, ◌-◌, ◌*◌, ◌==◌, ◌+◌, ℕ, List, [], ◌∷◌, ◌++◌, length, map, sum_by, cond, Option, Some, None, IfSome, codes}
use Rattle.std.specs.List.{flat_map, zip, AllByRecursion, Contains}
use Rattle.std.specs.Fmt.{decimal}
use Rattle.buck_apt_instruction.specs.Instruction.{InstructionParts, AssortmentParts}
use Rattle.buck_book_postings.specs.declared.posting.Posting.{Posting}
use Rattle.buck_book_postings.specs.History.{HistoryParts}
use Rattle.buck_page_figures.specs.Figures.{AreUnsteered, at_base_in, volume_in, worth_in}
use Rattle.buck_page_figures.specs.Points.{AreDegrees}
use Rattle.buck_page_figures.specs.Assorted.{AreParts}
use Rattle.buck_page_figures.specs.declared.degrees.Degrees.{Degrees}
use Rattle.buck_page_figures.specs.declared.figures.Part.{Part}
use Rattle.buck_page_cells.specs.Cells.{number_cell}
use Rattle.buck_page_text.specs.Names.{quoted}
use Rattle.buck_page_text.specs.Words.{half_up}
use Rattle.buck_rule.specs.declared.named.NamedRule.{NamedRule}
use Rattle.buck_rule.specs.Named.{rule_name}

-- a comma, and then a number, if there is one
abbrev pub cell : Option ℕ → List ℕ
cell = number_cell

abbrev pub cells : List (Option ℕ) → List ℕ
cells numbers = flat_map cell numbers

-- "<what><assortment> <assortment name>"
abbrev pub column : List ℕ → ℕ → AssortmentParts → List ℕ
column what at a = quoted (what ++ (decimal at ++ (codes " " ++ a.name)))

abbrev pub degree_head : ℕ → AssortmentParts → List ℕ
degree_head at a = column (codes "degree_") at a ++ codes ","

-- the names of columns of all assortments, of which the first stands at this place
abbrev pub heads_of : (ℕ → AssortmentParts → List ℕ) → ℕ → List AssortmentParts → List ℕ
heads_of one at [] = []
heads_of one at (a ∷ more) = one at a ++ heads_of one (at + 1) more

abbrev pub degree_heads : ℕ → List AssortmentParts → List ℕ
degree_heads at xs = heads_of degree_head at xs

-- the names of two columns, and of those of all assortments
abbrev pub pair_head : List ℕ → List ℕ → ℕ → AssortmentParts → List ℕ
pair_head first second at a = codes "," ++ (column first at a ++ (codes "," ++ column second at a))

abbrev pub pair_heads : List ℕ → List ℕ → ℕ → List AssortmentParts → List ℕ
pair_heads first second at xs = heads_of (pair_head first second) at xs

-- the names of the columns
unfoldable pub head_line : InstructionParts → List ℕ
head_line i =
    codes "rule,period,limit,versions,"
    ++ (degree_heads 0 i.assortments
    ++ (codes "least_degree,base_worth_millionths,best_base_worth_millionths,cost_ten_thousandths,volume_cm3"
    ++ (pair_heads (codes "volume_cm3_") (codes "unsteered_volume_cm3_") 0 i.assortments
    ++ (pair_heads (codes "diameter_degree_") (codes "length_degree_") 0 i.assortments ++ codes "\n"))))

-- the least of the degrees that are there
abbrev pub IsLeast : List (Option ℕ) → Option ℕ → Type 0
IsLeast degrees None = AllByRecursion (λ d. d ≡ None) degrees
IsLeast degrees (Some least) =
    Contains degrees (Some least) × AllByRecursion (λ d. IfSome d (λ n. least ≤ n)) degrees

-- what steering cost of what the best cuttings at base prices are worth, in ten-thousandths; 0 if that is nothing
abbrev pub rate_of : ℕ → ℕ → ℕ
rate_of best at_base = cond (best == 0) 0 (half_up (10000 * (best - at_base)) best)

-- the period, the limit, and how many sheets there are
abbrev pub front_of : HistoryParts → List (Option ℕ)
front_of h = Some h.instruction.period ∷ Some h.instruction.limit ∷ Some (length h.sheets) ∷ []

-- what was cut is worth at base prices, what the best cuttings are worth at these, what steering cost, and the volume
abbrev pub back_of : HistoryParts → ℕ → List (Option ℕ)
back_of h best =
    Some (sum_by (at_base_in h.instruction) h.postings) ∷ Some best
    ∷ Some (rate_of best (sum_by (at_base_in h.instruction) h.postings)) ∷ Some (sum_by volume_in h.postings) ∷ []

-- the degrees of the assortments
abbrev pub wholes_of : List Degrees → List (Option ℕ)
wholes_of degrees = map (λ d. d.whole) degrees

-- those of diameters and of lengths, assortment by assortment
abbrev pub apart_of : List Degrees → List (Option ℕ)
apart_of degrees = flat_map (λ d. d.diameter ∷ d.length ∷ []) degrees

-- the volumes of the logs, as cut and of the best cuttings at base prices, assortment by assortment
abbrev pub volumes_of : List Part → List Part → List (Option ℕ)
volumes_of cut unsteered = flat_map (λ p. Some p.0.volume ∷ Some p.1.volume ∷ []) (zip cut unsteered)

-- what a line says of the assortments: their degrees, the least of these, and what their logs come to, as cut and
-- unsteered
pub record Assorted : Type 0 where
  pub degrees : List Degrees
  pub least : Option ℕ
  pub cut : List Part
  pub unsteered : List Part

-- the line of a run by a rule of this name, from its history, what is said of the assortments, and what the best
-- cuttings at base prices are worth
unfoldable pub line_of : NamedRule → HistoryParts → Assorted → ℕ → List ℕ
line_of rule h a best =
    rule_name rule
    ++ (cells (front_of h)
    ++ (cells (wholes_of a.degrees)
    ++ (cells (a.least ∷ back_of h best)
    ++ (cells (volumes_of a.cut a.unsteered) ++ (cells (apart_of a.degrees) ++ codes "\n")))))

-- the line of a run by a rule of this name: its figures are those of the page, over its history
pub record IsLine (rule : NamedRule) (h : HistoryParts) (line : List ℕ) : Type 0 where
  pub assorted : Assorted
  pub unsteered : List Posting
  pub are_degrees : AreDegrees h.instruction h.postings h.postings assorted.degrees
  pub is_least : IsLeast (wholes_of assorted.degrees) assorted.least
  pub are_unsteered : AreUnsteered h.instruction h.postings unsteered
  pub are_parts : AreParts h.instruction h.postings assorted.cut
  pub are_unsteered_parts : AreParts h.instruction unsteered assorted.unsteered
  pub line_is : line ≡ line_of rule h assorted (sum_by worth_in unsteered)
