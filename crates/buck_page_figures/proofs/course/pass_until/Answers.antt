use Rattle.std.proofs.Common.{◌+◌, ◌∙◌, subst}
use Rattle.buck_page_figures.specs.inner.Course.{IsFurther}
use Rattle.buck_page_figures.proofs.CourseLemmas.{further_on, has_course, place_is}
use Rattle.buck_page_figures.proofs.course.pass_until.Goals as goal

pub pass_one-requires-clause-course : goal.pass_one-requires-clause-course
pass_one-requires-clause-course c =
    let h = c.requires.course in
    has_course c.args.instruction.now c.args.journals.now _ _ c.loop.course
    (c.loop.invariant.further h.unsteered h.course).course

pub loop-preserved : goal.loop-preserved
loop-preserved c =
    let i = c.args.instruction.now in
    let js = c.args.journals.now in
    let from = c.args.course.before + c.args.course.walk.at in
    let k = c.loop.counter in
    let h = c.requires.course in
    let there = c.loop.invariant.there in
    let d = c.in_ok-course.course in
    let step : IsFurther i js k c.loop.course (k + 1) d =
    subst (λ n. IsFurther i js n c.loop.course (n + 1) d) there c.in_ok-course.ensures.further in
    let further = further_on i js from k (k + 1) c.args.course c.loop.course d c.loop.invariant.further step in
    record {
      same = c.in_ok-course.ensures.same ∙ c.loop.invariant.same;
      there = place_is i js (k + 1) _ d (further h.unsteered h.course).course;
      begun = λ more. c.in_ok-course.ensures.begun;
      further = further;
    }
