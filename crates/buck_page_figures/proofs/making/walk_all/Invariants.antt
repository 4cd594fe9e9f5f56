use Rattle.std.proofs.Common.{◌≡◌}
use Rattle.buck_page_figures.specs.inner.Making.{AreCurves}
use Rattle.buck_page_figures.proofs.making.walk_all.Given as goal

abbrev pub invariant-loop-number : goal.invariant-loop-number
invariant-loop-number l = record {
  same : l.planner ≡ l.fn.planner;
  curves : AreCurves l.fn.instruction l.fn.journals l.number l.course l.points.items;
}
