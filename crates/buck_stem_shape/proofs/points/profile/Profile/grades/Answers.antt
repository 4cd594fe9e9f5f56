use Rattle.std.proofs.Common.{◌≡◌, ◌≤◌, ◌<◌, ◌+◌, ◌-◌, arith, subst}
use Rattle.buck_stem_shape.specs.points.Profile.{IsMaskBetween}
use Rattle.buck_stem_shape.proofs.points.profile.Profile.grades.Goals as goal

pub loop-from-preserved : goal.loop-from-preserved
loop-from-preserved c =
    let l = c.loop-from in
    let e : l.from ≡ l.from - 1 + 1 = omega (arith, c.loop-from-test.true) in
    let low : c.args.i ≤ l.from - 1 = omega (arith, c.loop-from-test.true) in
    let behind : l.from - 1 < c.args.j = omega (arith, c.loop-from-test.true, l.invariant.high) in
    let more = c.grades_from-grades.ensures c.args.j behind c.requires.1
    (subst (λ n. IsMaskBetween c.args.self.now n c.args.j l.grades) e l.invariant.mask) in
    record {
      low = omega (arith, c.max-from.ensures);
      high = omega (arith, c.max-from.ensures, c.run_start.ensures.low, behind, low);
      mask = c.run_start.ensures.same c.args.j c.grades_from-grades.result behind c.requires.1 more c.max-from.result
          (omega (arith, c.max-from.ensures)) (omega (arith, c.max-from.ensures, c.run_start.ensures.low, low));
    }
