use Rattle.std.proofs.Common.{arith}
use Rattle.buckfleet_engine_cross_check.proofs.Compared.{differ_other, own_some}
use Rattle.buckfleet_engine_cross_check.proofs.comparing.first_difference.Goals as goal

pub returns-then-not-same-clause-found : goal.returns-then-not-same-clause-found
returns-then-not-same-clause-found c =
    let a = c.args in
    let l = c.loop-posting in
    differ_other a.harvester l.cuts _ a.file.now _ c.in-Some.stem.now c.index-file-cuts.result
    (omega (arith, c.if-cuts-file.false))
    (own_some a.harvester l.posting-index l.cuts a.postings.now _ a.file.now l.invariant.so_far c.posting-item.result
    c.in-Some.stem.now c.loop-posting-test.true c.posting-item.is c.in-Some.ensures)
    c.index-file-cuts.is (λ e. grind (arith, c.if-not-same.ensures, c.if-not-same.true, e))
