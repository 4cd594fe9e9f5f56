use Rattle.std.proofs.Common.{◌≡◌, ◌+◌, ◌<◌}
use Rattle.buck_page_figures.specs.inner.Course.{IsFurther}
use Rattle.buck_page_figures.proofs.course.pass_until.Given as goal

abbrev pub invariant-loop : goal.invariant-loop
invariant-loop l = record {
  same : l.planner ≡ l.fn.planner;
  there : l.course.before + l.course.walk.at ≡ l.counter;
  begun : l.fn.course.before + l.fn.course.walk.at < l.counter → 0 < l.course.walk.at;
  further : IsFurther l.instruction l.journals (l.fn.course.before + l.fn.course.walk.at) l.fn.course l.counter
      l.course;
}
