use Rattle.buck_book_reader.proofs.Words.{sym, ◌∙◌, err_from_is_err_and}
use Rattle.buck_book_reader.proofs.Walk.{sheets_end, sheets_stop, sheet_wrong}
use Rattle.buck_book_reader.proofs.postings.sheets_in.Goals as goal

pub returns-then-is_first : goal.returns-then-is_first
returns-then-is_first c =
    sheets_stop c.args.items.now c.loop-k.k _ _ c.loop-k.invariant c.index-items-k.result c.loop-k-test.true
    c.index-items-k.is (sym c.is_first.ensures ∙ c.if-is_first.true)

pub returns-in_err-prices : goal.returns-in_err-prices
returns-in_err-prices c =
    let p = err_from_is_err_and c.from_residual.result c.from_residual.ensures.1 in
    rw (p.1, p.2) (λ ne.
    sheet_wrong c.args.items.now c.loop-k.k _ _ c.loop-k.invariant c.index-items-k.result c.loop-k-test.true
    c.index-items-k.is (sym c.is_first.ensures ∙ c.if-is_first.false) _ (c.in_err-prices.ensures ne))

pub returns : goal.returns
returns c = sheets_end c.args.items.now c.loop-k.k _ _ c.loop-k.invariant c.loop-k-test.false
