-- The lines of the table of wishes.
use Rattle.std.specs.Prelude.{◌≡◌, ℕ, ◌+◌, ◌-◌, ◌/◌, ◌%◌, List, [], ◌∷◌, ◌++◌, codes, cond, length, map, nat_lt, true, false, slice_get, slice_index, slice_index_or, sum, Option, Some, None}
use Rattle.std.specs.Fmt.{decimal}
use Rattle.std.specs.List.{AllZip, flat_map, zip}
use Rattle.std.specs.Option.{unwrap_or}
use Rattle.buck_apt_instruction.specs.Instruction.{AssortmentParts, InstructionParts}
use Rattle.buck_book_postings.specs.Degree.{part_of}
use Rattle.buck_book_postings.specs.Posting.{opening_targets}
use Rattle.buck_page_text.specs.Names.{quoted}
use Rattle.buck_page_cells.specs.declared.change.Change.{Change}
use Rattle.buck_page_cells.specs.declared.spread.Spread.{Spread}
use Rattle.buck_page_cells.specs.Cells.{number_cell, signed_cell, spread_cells}
use Rattle.buck_page_cells.specs.Spread.{IsSpread}
use Rattle.buckfleet_trial_wishes.specs.declared.outcome.Outcome.{Outcome}
use Rattle.buckfleet_trial_wishes.specs.declared.outcome.Runs.{Runs}
use Rattle.buckfleet_trial_wishes.specs.declared.wish.Wish.{Wish}

-- the names of the columns, and of those of draws, if there are some
abbrev pub gains_head : List ℕ → List ℕ
gains_head [] = []
gains_head (start ∷ more) =
    codes ",gain_min,gain_mean,gain_max,degree_change_min,degree_change_mean,degree_change_max"

unfoldable pub wishes_head : List ℕ → List ℕ
wishes_head starts =
    codes "assortment,row,column,from_mm,below_mm,length_mm,target,targets,unsteered_count,unsteered_logs"
    ++ (codes ",moved_target,moved_targets,base_worth_millionths,gain_millionths,degree,degree_change"
    ++ (codes ",least_degree,least_degree_change,name" ++ (gains_head starts ++ codes "\n")))

-- how far a number is from another
abbrev pub far_cell : ℕ → ℕ → List ℕ
far_cell from to = cond (nat_lt to from) (signed_cell true (from - to)) (signed_cell false (to - from))

-- what was cut at base prices, and what that is more than with all wishes
abbrev pub worth_cells : Outcome → Outcome → List ℕ
worth_cells whole run = number_cell (Some run.at_base) ++ far_cell whole.at_base run.at_base

-- a degree, and how far it is from that with all wishes, if there are both
abbrev pub change_cell_of : Option ℕ → Option ℕ → List ℕ
change_cell_of (Some before) (Some after) = far_cell before after
change_cell_of (Some before) None = codes ","
change_cell_of None after = codes ","

abbrev pub degree_cells : Option ℕ → Option ℕ → List ℕ
degree_cells before after = number_cell after ++ change_cell_of before after

-- the degree of the assortment at a place
abbrev pub degree_in : Outcome → ℕ → Option ℕ
degree_in run at = slice_index_or run.degrees.items at None

-- what a run came to beside that with all wishes: its worth, the degree of the assortment at a place, and the least
abbrev pub outcome_cells : Outcome → Outcome → ℕ → List ℕ
outcome_cells whole run at =
    worth_cells whole run
    ++ (degree_cells (degree_in whole at) (degree_in run at) ++ degree_cells whole.least run.least)

-- the line of the runs with all wishes: that of the files' own order beside itself, with nothing in all other cells
abbrev pub empty_end : List ℕ → List ℕ
empty_end [] = codes ",\n"
empty_end (start ∷ more) = codes ",,,,,,,\n"

unfoldable pub whole_line : List ℕ → Outcome → List ℕ
whole_line starts whole =
    codes ",,,,,,,,,,,"
    ++ (worth_cells whole whole ++ (codes ",," ++ (degree_cells whole.least whole.least ++ empty_end starts)))

-- each of some numbers
abbrev pub number_cells : List ℕ → List ℕ
number_cells numbers = flat_map (λ n. number_cell (Some n)) numbers

-- the exclusive upper diameter of a row
abbrev pub below_of : AssortmentParts → ℕ → ℕ
below_of a row = unwrap_or (slice_get a.diameters (row + 1)) a.upper

-- which class it is
abbrev pub class_cells : AssortmentParts → Wish → List ℕ
class_cells a wish =
    decimal wish.assortment
    ++ number_cells (wish.class / length a.lengths ∷ wish.class % length a.lengths
    ∷ slice_index a.diameters (wish.class / length a.lengths) ∷ below_of a (wish.class / length a.lengths)
    ∷ slice_index a.lengths (wish.class % length a.lengths) ∷ [])

-- of a class and of all in its assortment: what is wanted, the logs unsteered, and what is wanted with the target moved
abbrev pub target_cells : List ℕ → List ℕ → List ℕ → ℕ → List ℕ
target_cells targets unsteered moved class =
    number_cells (slice_index targets class ∷ sum targets ∷ slice_index unsteered class ∷ sum unsteered
    ∷ slice_index moved class ∷ sum moved ∷ [])

-- two numbers, if there are both, and a change from one to the other
abbrev pub both : Option ℕ → Option ℕ → Option (ℕ × ℕ)
both (Some before) (Some after) = Some (before, after)
both (Some before) None = None
both None after = None

abbrev pub IsChangeOf : Option (ℕ × ℕ) → Option Change → Type 0
IsChangeOf None None = Unit {0}
IsChangeOf None (Some change) = ⊥
IsChangeOf (Some pair) None = ⊥
IsChangeOf (Some pair) (Some change) = (change.from ≡ pair.0) × (change.to ≡ pair.1)

-- the three cells of such changes: the least, the mean and the greatest
pub record IsSpreadOver (pairs : List (Option (ℕ × ℕ))) (text : List ℕ) : Type 0 where
  pub changes : List (Option Change)
  pub are_changes : AllZip IsChangeOf pairs changes
  pub spread : Option Spread
  pub is_spread : IsSpread changes spread
  pub text_is : text ≡ spread_cells spread

-- draw by draw, what is gained, and how the degree of the assortment at a place changes
abbrev pub gains_in : List Outcome → List Outcome → List (Option (ℕ × ℕ))
gains_in wholes runs = map (λ p. Some (p.0.at_base, p.1.at_base)) (zip wholes runs)

abbrev pub changes_in : ℕ → List Outcome → List Outcome → List (Option (ℕ × ℕ))
changes_in at wholes runs = map (λ p. both (degree_in p.0 at) (degree_in p.1 at)) (zip wholes runs)

-- what that comes to, if there are draws
abbrev pub AreGains : ℕ → List Outcome → List Outcome → List ℕ → Type 0
AreGains at wholes [] text = text ≡ []
AreGains at wholes (run ∷ more) text = (gains : List ℕ) × (changes : List ℕ)
    × IsSpreadOver (gains_in wholes (run ∷ more)) gains × IsSpreadOver (changes_in at wholes (run ∷ more)) changes
    × (text ≡ gains ++ changes)

-- the line of a wish: its class and targets, what its runs came to beside those with all wishes, and the assortment
pub record IsWishLine (i : InstructionParts) (unsteered moved : List ℕ) (whole runs : Runs) (wish : Wish)
    (line : List ℕ) : Type 0 where
  pub assortment : AssortmentParts
  pub exists : slice_get i.assortments wish.assortment ≡ Some assortment
  pub gains : List ℕ
  pub are_gains : AreGains wish.assortment whole.drawn.items runs.drawn.items gains
  pub line_is : line ≡ class_cells assortment wish
      ++ (target_cells (part_of i assortment wish.assortment (opening_targets i))
      (part_of i assortment wish.assortment unsteered) (part_of i assortment wish.assortment moved) wish.class
      ++ (outcome_cells whole.own runs.own wish.assortment
      ++ (codes "," ++ (quoted assortment.name ++ (gains ++ codes "\n")))))
