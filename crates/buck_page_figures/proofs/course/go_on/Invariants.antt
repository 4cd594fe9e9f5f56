use Rattle.std.proofs.Common.{◌≡◌, ◌+◌}
use Rattle.buck_page_figures.specs.inner.Course.{IsOver}
use Rattle.buck_page_figures.proofs.course.go_on.Given as goal

abbrev pub invariant-loop : goal.invariant-loop
invariant-loop l = record {
  over : IsOver l.instruction l.journals l.fn.course l.course;
  next : l.course.journal + 1 ≡ l.counter;
}
