use Rattle.std.proofs.Common.{take}
use Rattle.buck_page_cells.specs.Spread.{IsGreatest}
use Rattle.buck_page_cells.proofs.spread.greatest_of.Given as goal

abbrev pub invariant-loop-change : goal.invariant-loop-change
invariant-loop-change l = IsGreatest (take l.change-index l.changes) l.greatest
