use Rattle.std.proofs.Common.{◌≡◌, ◌++◌, Some, take}
use Rattle.std.specs.List.{flat_map}
use Rattle.buck_page_cells.specs.Cells.{number_cell}
use Rattle.buck_page_cells.proofs.cells.put_numbers.Given as goal

abbrev pub invariant-loop-number : goal.invariant-loop-number
invariant-loop-number l =
    l.out.items ≡ l.initial.out.items ++ flat_map (λ n. number_cell (Some n)) (take l.number-index l.numbers)
