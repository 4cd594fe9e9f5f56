use Rattle.std.proofs.Common.{◌≡◌, ◌+◌, ◌++◌, [], ◌∷◌, take, get_or}
use Rattle.std.proofs.lemmas.Option.{slice_get-get_or}
use Rattle.buck_value.specs.declared.log.Log.{Log}
use Rattle.buck_book_postings.proofs.Ends.{take_one_more}
use Rattle.buck_page_figures.proofs.SumLemmas.{pieces_more}
use Rattle.buck_page_figures.proofs.cuts.pieces_of.Goals as goal

pub loop-log-preserved : goal.loop-log-preserved
loop-log-preserved c =
    let k = c.loop-log.log-index in
    let none : Log = record { start = 0; length = 0; assortment = 0 } in
    let g : Log = get_or c.args.logs.now k none in
    let one : take (k + 1) c.args.logs.now ≡ take k c.args.logs.now ++ g ∷ [] =
    take_one_more c.args.logs.now k g (slice_get-get_or c.args.logs.now k none c.loop-log-test.true) in
    rw (one, c.in_ok-push.ensures.items)
    (pieces_more c.args.base.now c.args.prices.now c.args.stem.now (take k c.args.logs.now)
    c.loop-log.pieces.items g c.piece_of.result c.loop-log.invariant c.piece_of.ensures)
