use Rattle.buck_dp.proofs.Words.{get_or, arith, ap, length, stands}
use Rattle.buck_dp.proofs.PricingLemmas.{more_types, types_sorted}
use Rattle.buck_dp.proofs.log_types.log_types_of.Goals as goal

pub loop-length-preserved : goal.loop-length-preserved
loop-length-preserved c =
    rw c.in_ok-push.ensures.items
    (more_types {x = c.index-all-assortment.result} (grind (arith, stands))
    (grind (arith, c.lengths-length-items.ensures))
    (ap (λ ls. get_or ls c.loop-length.length-index 0) c.lengths-length-items.ensures.lengths) c.loop-length.invariant)

pub returns : goal.returns
returns c =
    let all = c.assortments-all.ensures in
    let number = ap length all.items in
    types_sorted _ c.loop-assortment.assortment _ _ (omega (arith, number, c.loop-assortment-test.false))
    (omega (arith, number, all.valid.assortments_number)) c.loop-assortment.invariant c.sort.ensures.permutation
    c.in_ok-sort.ensures.sorted
