use Rattle.std.proofs.Common.{◌≡◌, ◌∙◌, ◌*◌, ap, slice_index, arith}
use Rattle.buck_stem_shape.specs.Stem.{diameter_at}
use Rattle.buck_stem_shape.specs.points.Profile.{ProfileParts}
use Rattle.buck_stem_shape.proofs.Diameters.{diameter_at-le}
use Rattle.buck_stem_shape.proofs.points.profile.Profile.diameters.Goals as goal

pub returns-clause-high : goal.returns-clause-high
returns-clause-high c = λ i within.
    let p : ProfileParts = c.args.self.now in
    let are = c.lists.ensures in
    let here = are.diameters_right i (omega (arith, are.diameters_number)) in
    let value : slice_index c.as_slice.result.now i ≡ diameter_at p.stem.samples (i * p.«module») =
    ap (λ xs. slice_index xs i) c.as_slice.ensures.value ∙ here in
    omega (arith, value, diameter_at-le p.stem (i * p.«module») are.valid)
