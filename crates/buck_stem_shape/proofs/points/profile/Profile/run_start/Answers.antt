use Rattle.std.proofs.Common.{arith, rules}
use Rattle.buck_stem_shape.proofs.RunLemmas.{same_masks}
use Rattle.buck_stem_shape.proofs.points.profile.Profile.run_start.Goals as goal

pub returns-clause-same : goal.returns-clause-same
returns-clause-same c = λ j mask lt within shows k low upto.
    let p = c.args.self.now in
    same_masks p.stem.zones p.«module» k c.args.i j c.step.result.mask mask (search rules) lt
    upto (λ n from to. c.step.ensures.right n (omega arith) to) shows

pub returns-clause-even : goal.returns-clause-even
returns-clause-even c = (c.step.result.mask, λ k low upto. c.step.ensures.right k low (omega arith))
