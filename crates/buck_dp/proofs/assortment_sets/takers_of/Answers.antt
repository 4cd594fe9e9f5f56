use Rattle.buck_dp.proofs.Words.{◌<◌, arith, ap, length, stands, w16, bit_at_set_same, bit_at_set_other}
use Rattle.buck_dp.proofs.assortment_sets.takers_of.Goals as goal

pub loop-place-preserved : goal.loop-place-preserved
loop-place-preserved c =
    let place = c.loop-place.place in
    let all = c.assortments-all.ensures in
    let here : place < 16 = omega (arith, c.loop-place-test.true, ap length all.items, all.valid.assortments_number) in
    let same = bit_at_set_same w16 c.loop-place.marks place here in
    let others = bit_at_set_other w16 c.loop-place.marks place here in
    grind (arith, stands, same, others)
