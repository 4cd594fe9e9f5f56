use Rattle.std.proofs.Common.{◌*◌, ◌+◌, mul-le-mul_right, arith}
use Rattle.buck_stem_shape.proofs.RunLemmas.{mask_more}
use Rattle.buck_stem_shape.proofs.points.profile.Profile.grades_from.Goals as goal

pub returns : goal.returns
returns c = λ j lt within rest.
    let p = c.args.self.now in
    let i = c.args.i in
    mask_more p.stem.zones (i * p.«module») ((i + 1) * p.«module») (j * p.«module») c.step.result.mask c.args.grades
    (mul-le-mul_right p.«module» (omega arith)) (mul-le-mul_right p.«module» (omega arith))
    (c.step.ensures.right i c.step.ensures.low (omega arith)) rest
