use Rattle.std.proofs.Common.{◌+◌, arith}
use Rattle.buck_stem_shape.proofs.Diameters.{diameter_at-le}
use Rattle.buckfleet_proceeds.proofs.paying.paid_for.Goals as goal

pub volume_of-requires-clause-diameter : goal.volume_of-requires-clause-diameter
volume_of-requires-clause-diameter c =
    let low = diameter_at-le c.args.stem.now (c.args.log.now.start + c.args.log.now.length) c.length.ensures.valid in
    omega (arith, low, c.diameter_at.ensures)
