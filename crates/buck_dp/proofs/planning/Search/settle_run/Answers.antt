use Rattle.buck_dp.proofs.Words.{◌≡◌, ◌-◌, ◌∙◌, ap, arith, rules, LogTypes}
use Rattle.buck_dp.proofs.GridLemmas.{short_run, near_run}
use Rattle.buck_dp.proofs.planning.Search.settle_run.Goals as goal

pub settle_near-requires : goal.settle_near-requires
settle_near-requires g c =
    let types = c.types-types.ensures ∙ c.in_ok-first.ensures.cache.1 in (
      c.in_ok-settle_stretch.ensures.plan,
      (
        omega arith,
        λ t low high. near_run c.requires.0.grid t _ _
            (c.in_ok-first.ensures.ranges t (omega arith) (omega arith)) c.index-near.ensures (omega arith)
            (omega arith) (search (rules, types)),
      ),
    )

pub settle_stretch-requires-3 : goal.settle_stretch-requires-3
settle_stretch-requires-3 g c =
    let types = c.types-types.ensures ∙ c.in_ok-first.ensures.cache.1 in
    let least : c.types-types.result.now.least_steps ≡ g.p.types.least_steps =
    ap (λ (m : LogTypes). m.least_steps) types in (
      search rules,
      (
        omega arith,
        rw c.clear.ensures.items (λ t low high. short_run c.requires.0.grid t (c.len-number.result - 1) _ _
            (c.in_ok-first.ensures.ranges t low (omega (arith, c.in_ok-first.ensures.first)))
            c.index.ensures (omega arith) (omega (arith, least))),
      ),
    )
