use Rattle.std.proofs.Common.{◌≡◌, ◌+◌, arith}
use Rattle.std.proofs.lemmas.Grind.{common_steps, elements}
use Rattle.buck_stem_shape.specs.Stem.{least_to}
use Rattle.buck_stem_shape.proofs.Diameters.{least_next}
use Rattle.buck_stem_shape.proofs.points.diameters.put_lows.Goals as goal

pub loop-i-preserved : goal.loop-i-preserved
loop-i-preserved c =
    let low : c.min-low.result ≡ least_to c.args.samples.now (c.loop-i.i + 1) = grind (arith, least_next) in
    record { number = grind (arith, common_steps); low = low; each = grind (arith, elements, low) }
