use Rattle.buck_dp.proofs.Words.{◌-◌, arith, refl, slice_get_read}
use Rattle.buck_dp.proofs.OfferLemmas.{cell_fits, offered_less, offered_more, offered_range}
use Rattle.buck_dp.proofs.offering.offer_some.Goals.{then-steps-lengths+then-lengths-steps+then-cell-room, else-steps-lengths}
use Rattle.buck_dp.proofs.offering.offer_some.Goals as goal

pub overflow_sub-top : goal.overflow_sub-top
overflow_sub-top c =
    let (p, ch, first, stop, is, chosen) = c.requires.open in
    let there = slice_get_read c.args.row.now _ _ _ refl c.loop-cell-test.true c.cell-item.is in
    let near = (chosen _ _ there).1 (omega arith, omega arith, omega arith) in omega (arith, near.0)

pub overflow_add-top : goal.overflow_add-top
overflow_add-top c =
    let (p, ch, first, stop, is, chosen) = c.requires.open in
    let there = slice_get_read c.args.row.now _ _ _ refl c.loop-cell-test.true c.cell-item.is in
    let near = (chosen _ _ there).1 (omega arith, omega arith, omega arith) in
    let can = cell_fits (c.loop-cell.invariant p ch first stop is chosen) there
    {i = c.args.top - c.cell-item.result.steps} near (omega (arith, near.0)) refl in omega (arith, can.there)

pub offer_bid-requires : goal.offer_bid-requires
offer_bid-requires c =
    let (p, ch, first, stop, is, chosen) = c.requires.open in
    let there = slice_get_read c.args.row.now _ _ _ refl c.loop-cell-test.true c.cell-item.is in
    let near = (chosen _ _ there).1 (omega arith, omega arith, omega arith) in
    cell_fits (c.loop-cell.invariant p ch first stop is chosen) there near (omega (arith, near.0)) refl

pub loop-cell-preserved : goal.loop-cell-preserved
loop-cell-preserved c p ch first stop is chosen =
    let there = slice_get_read c.args.row.now _ _ _ refl c.loop-cell-test.true c.cell-item.is in
    let was = c.loop-cell.invariant p ch first stop is chosen in
    elim c.if-steps-lengths.branch [
      | then-steps-lengths+then-lengths-steps+then-cell-room w ↦
          let near = (chosen _ _ there).1 (omega arith, omega arith, omega (arith, w.if-cell-room.true)) in
          rw w.values-is (offered_more was there near (omega (arith, near.0)) refl w.offer_bid.ensures)
      | else-steps-lengths w ↦
          let near = (chosen _ _ there).0 in
          rw w.values-is (offered_less was there (λ is. grind (arith, near is, w.else-steps-lengths.branch)))
    ]

pub returns : goal.returns
returns c p ch first stop is chosen = offered_range (c.loop-cell.invariant p ch first stop is chosen) (omega arith)
