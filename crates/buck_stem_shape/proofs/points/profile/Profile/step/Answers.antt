use Rattle.std.proofs.Common.{◌+◌, subst, sym, arith}
use Rattle.buck_stem_shape.specs.declared.points.runs.Step.{Step}
use Rattle.buck_stem_shape.specs.inner.Runs.{ShowMask}
use Rattle.buck_stem_shape.proofs.points.profile.Profile.step.Goals as goal

pub returns-clause-right : goal.returns-clause-right
returns-clause-right c =
    let are = c.lists.ensures in
    let at = are.steps c.args.i c.index.result.now (omega (arith, are.steps_number, c.requires)) in
    subst (λ (s : Step). ShowMask c.args.self.now.stem.zones c.args.self.now.«module» s.first (c.args.i + 1) s.mask)
    (sym c.index.ensures) at.1
