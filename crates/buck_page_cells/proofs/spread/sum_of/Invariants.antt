use Rattle.std.proofs.Common.{◌≡◌, ◌≤◌, ◌*◌, ◌^◌, take}
use Rattle.buck_page_cells.specs.Spread.{from_sum, how_many, to_sum}
use Rattle.buck_page_cells.proofs.spread.sum_of.Given as goal

abbrev pub invariant-loop-change : goal.invariant-loop-change
invariant-loop-change l = record {
  from : l.from ≡ from_sum (take l.change-index l.changes);
  to : l.to ≡ to_sum (take l.change-index l.changes);
  number : l.number ≡ how_many (take l.change-index l.changes);
  few : l.number ≤ l.change-index;
  small_from : l.from ≤ l.number * 2 ^ 100;
  small_to : l.to ≤ l.number * 2 ^ 100;
}
