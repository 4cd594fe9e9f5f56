use Rattle.buck_book_reader.proofs.Words.{rules, ◌≡◌, arith, length, sym, ◌∙◌, ap, err_from_is_err_and, length_push, posting_at}
use Rattle.buck_book_reader.proofs.Walk.{postings_stop, no_posting, posting_wrong, posting_more}
use Rattle.buck_book_reader.proofs.postings.postings_in.Goals as goal

pub returns-in_err-posting-clause-value : goal.returns-in_err-posting-clause-value
returns-in_err-posting-clause-value c =
    let p = err_from_is_err_and c.from_residual.result c.from_residual.ensures.1 in
    let same : c.len.result ≡ length c.loop-k.postings.items = search rules in
    rw (p.1, p.2) (λ ne.
    posting_wrong c.args.items.now c.loop-k.k _ _ c.loop-k.invariant.read c.index-items-k.result c.loop-k-test.true
    c.index-items-k.is (sym c.is_first.ensures ∙ c.if-is_first.true) _
    (ap (posting_at c.index-items-k.result _ c.loop-k.k) (sym same) ∙ c.in_err-posting.ensures.value ne))

pub loop-k-preserved : goal.loop-k-preserved
loop-k-preserved c = grind (arith, no_posting, posting_more, length_push)

pub returns-clause-value : goal.returns-clause-value
returns-clause-value c =
    postings_stop c.args.items.now c.loop-k.k _ _ c.loop-k.invariant.read c.loop-k-test.false
