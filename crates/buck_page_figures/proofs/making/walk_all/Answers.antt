use Rattle.std.proofs.Common.{◌≡◌, ◌+◌, ◌≤◌, ◌∙◌, List, length, ap, sym, subst, refl, arith}
use Rattle.std.specs.Prelude.{min}
use Rattle.buck_page_figures.specs.Journals.{postings_of}
use Rattle.buck_page_figures.specs.Points.{point_after}
use Rattle.buck_page_figures.specs.inner.Course.{IsCourse, IsFurther}
use Rattle.buck_page_figures.specs.inner.Making.{AreCurves}
use Rattle.buck_page_figures.specs.declared.figures.Point.{Point}
use Rattle.buck_page_figures.proofs.CourseLemmas.{at_last, curves_more, curves_over, has_course, last_point, place_is, point_within, points_apart}
use Rattle.buck_page_figures.proofs.making.walk_all.Goals as goal

pub pass_until-requires-clause-course : goal.pass_until-requires-clause-course
pass_until-requires-clause-course c =
    let curves = c.loop-number.invariant.curves in
    has_course c.args.instruction.now c.args.journals.now _ curves.unsteered c.loop-number.course curves.course

pub pass_until-requires-clause-until : goal.pass_until-requires-clause-until
pass_until-requires-clause-until c =
    let i = c.args.instruction.now in
    let js = c.args.journals.now in
    let n = length (postings_of js) in
    let k = c.loop-number.number in
    let curves = c.loop-number.invariant.curves in
    let at : c.loop-number.course.before + c.loop-number.course.walk.at ≡ point_after n k =
    place_is i js (point_after n k) curves.unsteered c.loop-number.course curves.course in
    let less : k + 1 ≤ min n 200 =
    omega (arith, c.loop-number-test.true, c.min-number-end.ensures, c.number_of-last.ensures) in
    let after : c.point_after-after.result ≡ point_after n (k + 1) =
    c.point_after-after.ensures ∙ ap (λ m. point_after m (k + 1)) c.number_of-last.ensures in (
      omega (arith, at, points_apart n k less, after),
      omega (arith, point_within n (k + 1) less, after),
    )

pub point_of-requires-clause-course : goal.point_of-requires-clause-course
point_of-requires-clause-course c =
    let i = c.args.instruction.now in
    let js = c.args.journals.now in
    let n = length (postings_of js) in
    let k = c.loop-number.number in
    let curves = c.loop-number.invariant.curves in
    let was = c.loop-number.course in
    let d = c.in_ok-course-2.course in
    let at = place_is i js (point_after n k) curves.unsteered was curves.course in
    let further : IsFurther i js (point_after n k) was c.point_after-after.result d =
    subst (λ m. IsFurther i js m was c.point_after-after.result d) at c.in_ok-course-2.ensures.further in
    has_course i js c.point_after-after.result _ d (further curves.unsteered curves.course).course

pub loop-number-preserved : goal.loop-number-preserved
loop-number-preserved c =
    let i = c.args.instruction.now in
    let js = c.args.journals.now in
    let n = length (postings_of js) in
    let k = c.loop-number.number in
    let curves = c.loop-number.invariant.curves in
    let was = c.loop-number.course in
    let d = c.in_ok-course-2.course in
    let at = place_is i js (point_after n k) curves.unsteered was curves.course in
    let after : c.point_after-after.result ≡ point_after n (k + 1) =
    c.point_after-after.ensures ∙ ap (λ m. point_after m (k + 1)) c.number_of-last.ensures in
    let further : IsFurther i js (point_after n k) was (point_after n (k + 1)) d =
    subst (λ m. IsFurther i js (point_after n k) was m d) after
    (subst (λ m. IsFurther i js m was c.point_after-after.result d) at c.in_ok-course-2.ensures.further) in
    record {
      same = c.in_ok-course-2.ensures.same ∙ c.loop-number.invariant.same;
      curves = subst (λ l. AreCurves i js (k + 1) d l) (sym {A = List Point} c.in_ok-push.ensures.items)
          (curves_more i js k was.account.tally.total.demands was d c.loop-number.points.items
          c.in_ok-point_of.field-0 curves further c.in_ok-course-2.ensures.begun refl c.in_ok-point_of.ensures);
    }

pub go_on-requires-clause-course : goal.go_on-requires-clause-course
go_on-requires-clause-course c =
    let curves = c.loop-number.invariant.curves in
    has_course c.args.instruction.now c.args.journals.now _ curves.unsteered c.loop-number.course curves.course

pub returns-clause-curves : goal.returns-clause-curves
returns-clause-curves c =
    let i = c.args.instruction.now in
    let js = c.args.journals.now in
    let k = c.loop-number.number in
    let all : k ≡ min (length (postings_of js)) 200 =
    omega (arith, c.loop-number-test.false, c.min-number-end.ensures, c.number_of-last.ensures) in
    subst (λ m. AreCurves i js m c.in_ok-course-3.course c.loop-number.points.items) all
    (curves_over i js k c.loop-number.course c.in_ok-course-3.course c.loop-number.points.items
    c.loop-number.invariant.curves c.in_ok-course-3.ensures.over)

pub returns-clause-last : goal.returns-clause-last
returns-clause-last c =
    let i = c.args.instruction.now in
    let js = c.args.journals.now in
    let n = length (postings_of js) in
    let k = c.loop-number.number in
    let curves = c.loop-number.invariant.curves in
    let d = c.in_ok-course-3.course in
    let all : k ≡ min n 200 =
    omega (arith, c.loop-number-test.false, c.min-number-end.ensures, c.number_of-last.ensures) in
    let end : point_after n k ≡ n = ap (point_after n) all ∙ last_point n in
    at_last i js curves.unsteered d
    (subst (λ m. IsCourse i js m curves.unsteered d) end
    (c.in_ok-course-3.ensures.over (point_after n k) curves.unsteered curves.course)) c.in_ok-course-3.ensures.next
