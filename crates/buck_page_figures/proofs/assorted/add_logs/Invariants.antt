use Rattle.std.proofs.Common.{take}
use Rattle.buck_page_figures.specs.inner.Assorted.{ArePartsWith}
use Rattle.buck_page_figures.proofs.assorted.add_logs.Given as goal

abbrev pub invariant-loop-log : goal.invariant-loop-log
invariant-loop-log l = ArePartsWith l.base l.stem (take l.log-index l.logs) l.fn.parts.items l.parts.items
