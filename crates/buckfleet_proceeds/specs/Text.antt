-- The text of an appraisal: a line of columns, then one for each harvester, by number, one for each assortment, and one
-- for all.
use Rattle.std.specs.Prelude.{ℕ, ◌+◌, ◌-◌, ◌*◌, ◌==◌, List, [], ◌∷◌, ◌++◌, true, false, nat_lt, cond, codes, Option, Some, None}
use Rattle.std.specs.List.{flat_map}
use Rattle.std.specs.BTreeMap.{BTreeMap}
use Rattle.buck_apt_instruction.specs.Instruction.{AssortmentParts, InstructionParts}
use Rattle.buck_page_text.specs.Names.{quoted}
use Rattle.buck_page_text.specs.Words.{half_up}
use Rattle.buck_page_cells.specs.Cells.{number_cell, signed_cell}
use Rattle.buckfleet_proceeds.specs.declared.appraisal.Appraisal.{Appraisal}
use Rattle.buckfleet_proceeds.specs.declared.paid.Account.{Account}
use Rattle.buckfleet_proceeds.specs.declared.paid.Paid.{Paid}

-- the names of the columns
abbrev pub columns : List ℕ
columns =
    codes "line,number,stems,logs,best_logs,unbought_logs,volume_cm3,best_volume_cm3,"
    ++ codes "worth_millionths,best_worth_millionths,loss_millionths,loss_ten_thousandths,name\n"

-- what is lost of the best, with a minus sign if what was cut brings more
abbrev pub loss_cell : ℕ → ℕ → List ℕ
loss_cell cut best = cond (nat_lt best cut) (signed_cell true (cut - best)) (signed_cell false (best - cut))

-- what logs come to as cut and of the best cuttings, up to the loss
abbrev pub paid_cells : Paid → Paid → List ℕ
paid_cells cut best =
    flat_map (λ n. number_cell (Some n))
    (cut.logs ∷ best.logs ∷ cut.unbought ∷ cut.volume ∷ best.volume ∷ cut.worth ∷ best.worth ∷ [])
    ++ loss_cell cut.worth best.worth

-- what is lost of the best, in ten-thousandths, to the nearest; 0 if that is nothing
abbrev pub loss_rate : Account → ℕ
loss_rate a = cond (a.best.worth == 0) 0 (half_up (10000 * (a.best.worth - a.cut.worth)) a.best.worth)

-- the line of a harvester or of all
abbrev pub whole_line : List ℕ → Option ℕ → Account → List ℕ
whole_line what number a =
    what
    ++ (number_cell number
    ++ (number_cell (Some a.stems)
    ++ (paid_cells a.cut a.best ++ (number_cell (Some (loss_rate a)) ++ codes ",\n"))))

-- the line of an assortment
abbrev pub assortment_line : ℕ → Paid → Paid → List ℕ → List ℕ
assortment_line at cut best name =
    codes "assortment"
    ++ (number_cell (Some at)
    ++ (number_cell None ++ (paid_cells cut best ++ (codes ",," ++ (quoted name ++ codes "\n")))))

-- those of all assortments, of which the first stands at this place
abbrev pub assortment_lines : ℕ → List AssortmentParts → List Paid → List Paid → List ℕ
assortment_lines at [] cuts bests = []
assortment_lines at (a ∷ more) [] bests = []
assortment_lines at (a ∷ more) (cut ∷ cuts) [] = []
assortment_lines at (a ∷ more) (cut ∷ cuts) (best ∷ bests) =
    assortment_line at cut best a.name ++ assortment_lines (at + 1) more cuts bests

-- those of harvesters, by number
abbrev pub harvester_lines : BTreeMap ℕ Account → List ℕ
harvester_lines harvesters = flat_map (λ e. whole_line (codes "harvester") (Some e.0) e.1) harvesters.entries

-- the text, with the names of the instruction of the journals
unfoldable pub appraisal_text : InstructionParts → Appraisal → List ℕ
appraisal_text i p =
    columns
    ++ (harvester_lines p.harvesters
    ++ (assortment_lines 0 i.assortments p.assortments.items p.best_assortments.items
    ++ whole_line (codes "total") None p.total))
