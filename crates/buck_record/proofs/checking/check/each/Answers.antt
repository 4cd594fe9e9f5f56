use Rattle.std.proofs.lemmas.List.{drop_all}
use Rattle.std.proofs.lemmas.Result.{err_from_is_err_and}
use Rattle.buck_record.specs.checking.Check.{each}
use Rattle.buck_record.proofs.CheckLemmas.{here}
use Rattle.buck_record.proofs.checking.check.each.Goals as goal

pub returns-in_err-f : goal.returns-in_err-f
unfolding each
returns-in_err-f g c = λ t is.
    let p = err_from_is_err_and c.from_residual.result c.from_residual.ensures.1 in
    let at = here c.args.xs.now c.loop-x.x-index c.x-item.result c.loop-x-test.true c.x-item.is in
    rw (p.1, p.2) (rw (at, ← is _ _ c.in_err-f.ensures) at (c.loop-x.invariant t is))

pub loop-x-preserved : goal.loop-x-preserved
unfolding each
loop-x-preserved g c = λ t is.
    let at = here c.args.xs.now c.loop-x.x-index c.x-item.result c.loop-x-test.true c.x-item.is in
    rw (at, ← is _ _ c.in_ok-f.ensures) at (c.loop-x.invariant t is)

pub returns : goal.returns
unfolding each
returns g c = λ t is. rw (drop_all c.loop-x.x-index c.args.xs.now c.loop-x-test.false) at (c.loop-x.invariant t is)
