use Rattle.std.proofs.Common.{take}
use Rattle.buck_page_figures.specs.inner.Counted.{AreCountsWith}
use Rattle.buck_page_figures.proofs.counting.count_logs.Given as goal

abbrev pub invariant-loop-log : goal.invariant-loop-log
invariant-loop-log l =
    AreCountsWith l.base.instruction l.stem (take l.log-index l.logs) l.fn.counts.items l.counts.items
