use Rattle.buck_dp.proofs.Words.{◌≡◌, arith, ap, ◌∙◌, ◌∷◌, append_assoc, get_or_default, get_or, none, BidParts}
use Rattle.buck_dp.proofs.Values.{best_skipped, best_begun, best_first}
use Rattle.buck_dp.proofs.following.follow.Goals as goal

pub loop-i-preserved-then-rank-eq0 : goal.loop-i-preserved-then-rank-eq0
loop-i-preserved-then-rank-eq0 g c gs b =
    let none : get_or c.args.search.now.choices.items c.loop-i.i 0 ≡ 0 =
    omega (arith, ap (λ xs. get_or xs c.loop-i.i 0) c.as_slice-choices.ensures.value) in
    c.loop-i.invariant gs (best_skipped c.requires.grid.types.list c.requires.search c.loop-i.i gs none b)

pub loop-i-preserved : goal.loop-i-preserved
loop-i-preserved g c gs b =
    let is = c.as_slice-choices.ensures.value in
    let begun = (best_begun c.requires.grid.types.list c.requires.search (rw is at c.log_at-log.ensures)
    (omega (arith, ap (λ xs. get_or xs c.loop-i.i 0) is))).2 in
    let next = rw (c.deref.ensures, c.sheet.ensures.sheet, c.requires.cache.0) at
    c.point_after-i.ensures in
    rw (c.in_ok-push.ensures.items, append_assoc)
    (c.loop-i.invariant (c.log_at-log.result ∷ gs) (begun gs (rw (← next) b)))

pub returns-clause-first : goal.returns-clause-first
returns-clause-first g c =
    (best_first c.requires.grid.types.list c.requires.search c.loop-i.invariant (omega arith)).0

pub returns-clause-worth : goal.returns-clause-worth
returns-clause-worth g c =
    let value = get_or_default c.args.search.now.values.items 0 _ none (omega (arith, c.requires.search.number)) in
    c.worth.ensures ∙ ap (λ (b : BidParts). b.worth) (c.index.ensures ∙ value)
    ∙ (best_first c.requires.grid.types.list c.requires.search c.loop-i.invariant (omega arith)).1
