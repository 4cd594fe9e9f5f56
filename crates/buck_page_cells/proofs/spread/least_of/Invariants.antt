use Rattle.std.proofs.Common.{take}
use Rattle.buck_page_cells.specs.Spread.{IsLeast}
use Rattle.buck_page_cells.proofs.spread.least_of.Given as goal

abbrev pub invariant-loop-change : goal.invariant-loop-change
invariant-loop-change l = IsLeast (take l.change-index l.changes) l.least
