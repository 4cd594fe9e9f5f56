use Rattle.buckfleet_trial_sweep.proofs.Words.{◌*◌, ◌≤◌, ◌++◌, ◌∙◌, ℕ, length, zero-mul, refl, subst, sym, ap, arith, take_all, IsPart}
use Rattle.std.proofs.lemmas.Grind.{div_ceil_times}
use Rattle.buckfleet_trial_sweep.proofs.Tables.{part_put}
use Rattle.buckfleet_trial_sweep.proofs.cutting.lines_in_parts.Goals as goal

pub loop-k-init : goal.loop-k-init
loop-k-init g c = rw (c.new-text.ensures.items, zero-mul c.args.size) refl

pub returns-in-Err : goal.returns-in-Err
returns-in-Err g c =
    let given =
    c.in_ok-parts.ensures.each c.loop-k.k c.index.result.now
    (omega (arith, c.loop-k-test.true, c.len-k-end.ensures)) in
    subst (IsPart _ _ _) (sym c.index.ensures ∙ c.in-Err.is) given.1.call

pub loop-k-preserved : goal.loop-k-preserved
loop-k-preserved g c =
    let given =
    c.in_ok-parts.ensures.each c.loop-k.k c.index.result.now
    (omega (arith, c.loop-k-test.true, c.len-k-end.ensures)) in
    part_put _ c.args.combinations.now _ c.args.size c.loop-k.k _ _ _ c.loop-k.invariant given.1.argument_is.value
    (subst (IsPart c.args.input.now.instruction c.args.input.now.lists.items _) (sym c.index.ensures ∙ c.in-Ok.is)
    given.1.call)
    (c.in_ok-extend_from_slice-in-Ok.ensures.items ∙ ap (λ l. c.loop-k.text.items ++ l) c.as_slice.ensures.value)

pub returns : goal.returns
returns g c =
    let all : length c.args.combinations.now ≤ c.loop-k.k * c.args.size =
    subst (λ (n : ℕ). length c.args.combinations.now ≤ n * c.args.size)
    (sym (c.in_ok-parts.ensures.len) ∙ omega (arith, c.loop-k-test.false))
    (div_ceil_times (length c.args.combinations.now) c.args.size c.requires.size).0 in
    (rw (take_all _ c.args.combinations.now all) at c.loop-k.invariant)
