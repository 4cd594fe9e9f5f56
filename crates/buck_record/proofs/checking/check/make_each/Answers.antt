use Rattle.std.proofs.Common.{sym, ◌∙◌}
use Rattle.std.proofs.lemmas.List.{append-nil, drop_all}
use Rattle.std.proofs.lemmas.Result.{err_from_is_err_and}
use Rattle.buck_record.specs.checking.Check.{make_each}
use Rattle.buck_record.proofs.CheckLemmas.{here, regroup}
use Rattle.buck_record.proofs.checking.check.make_each.Goals as goal

pub returns-in_err-f : goal.returns-in_err-f
unfolding make_each
returns-in_err-f g c = λ memory f remembers makes.
    let p = err_from_is_err_and c.from_residual-in_err-f.result c.from_residual-in_err-f.ensures.1 in
    let at = here c.args.xs.now c.loop-x.x-index c.x-item.result c.loop-x-test.true c.x-item.is in
    rw (p.1, p.2)
    (λ ne. sym (rw (at, makes _ _ c.in_err-f.ensures ne) at (c.loop-x.invariant memory f remembers makes)))

pub loop-x-preserved : goal.loop-x-preserved
unfolding make_each
loop-x-preserved g c = λ memory f remembers makes.
    let at = here c.args.xs.now c.loop-x.x-index c.x-item.result c.loop-x-test.true c.x-item.is in
    rw c.in-Ok.ensures.items
    (sym (regroup c.loop-x.made.items c.in_ok-f.field-0 _)
    ∙ rw (at, makes _ _ c.in_ok-f.ensures) at (c.loop-x.invariant memory f remembers makes))

pub returns : goal.returns
unfolding make_each
returns g c = λ memory f remembers makes.
    rw c.of.ensures
    (sym (rw (drop_all c.loop-x.x-index c.args.xs.now c.loop-x-test.false, append-nil c.loop-x.made.items)
    at (c.loop-x.invariant memory f remembers makes)))
