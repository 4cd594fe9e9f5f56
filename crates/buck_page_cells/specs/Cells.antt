-- Cells of a table: a comma, and then a number, if there is one.
use Rattle.std.specs.Prelude.{ℕ, ◌-◌, Bool, true, false, List, ◌++◌, Option, Some, None, nat_lt, cond, codes}
use Rattle.std.specs.Fmt.{decimal}
use Rattle.buck_page_text.specs.declared.words.Difference.{Difference}
use Rattle.buck_page_cells.specs.declared.change.Change.{Change}
use Rattle.buck_page_cells.specs.declared.spread.Spread.{Spread}

abbrev pub number_cell : Option ℕ → List ℕ
number_cell None = codes ","
number_cell (Some n) = codes "," ++ decimal n

-- a minus sign stands before what is below 0
abbrev pub signed_cell : Bool → ℕ → List ℕ
signed_cell false size = codes "," ++ decimal size
signed_cell true size = codes ",-" ++ decimal size

abbrev pub difference_cell : Option Difference → List ℕ
difference_cell None = codes ","
difference_cell (Some d) = signed_cell d.below d.size

-- how far a number changes
abbrev pub change_cell : Option Change → List ℕ
change_cell None = codes ","
change_cell (Some c) = cond (nat_lt c.to c.from) (signed_cell true (c.from - c.to)) (signed_cell false (c.to - c.from))

abbrev pub spread_cells : Option Spread → List ℕ
spread_cells None = codes "," ++ (codes "," ++ codes ",")
spread_cells (Some s) =
    difference_cell (Some s.least) ++ (difference_cell (Some s.mean) ++ difference_cell (Some s.greatest))
