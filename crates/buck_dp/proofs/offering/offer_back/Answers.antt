use Rattle.buck_dp.proofs.Words.{arith, refl, slice_get_read}
use Rattle.buck_dp.proofs.OfferLemmas.{cell_fits, offered_more, offered_range, offered_behind, can_behind}
use Rattle.buck_dp.proofs.offering.offer_back.Goals as goal

pub offer_bid-requires : goal.offer_bid-requires
offer_bid-requires c =
    let (p, ch, front, first, le, fit, is) = c.requires.open in
    let there = slice_get_read c.args.row.now _ _ _ refl c.loop-cell-test.true c.cell-item.is in
    let (some, fits, placed) = fit _ _ there in
    can_behind front
    (cell_fits (c.loop-cell.invariant p ch front first le fit is) there
    (omega (arith, placed), omega (arith, placed, some), fits) (omega (arith, placed)) (omega (arith, placed)))

pub loop-cell-preserved : goal.loop-cell-preserved
loop-cell-preserved c p ch front first le fit is =
    let there = slice_get_read c.args.row.now _ _ _ refl c.loop-cell-test.true c.cell-item.is in
    let (some, fits, placed) = fit _ _ there in
    offered_more (c.loop-cell.invariant p ch front first le fit is) there
    (omega (arith, placed), omega (arith, placed, some), fits) (omega (arith, placed)) (omega (arith, placed))
    (offered_behind front c.offer_bid.ensures)

pub returns : goal.returns
returns c p ch front first le fit is = offered_range (c.loop-cell.invariant p ch front first le fit is) (omega arith)
