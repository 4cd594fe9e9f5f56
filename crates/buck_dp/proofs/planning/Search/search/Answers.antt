use Rattle.buck_dp.proofs.Words.{rules, common_steps, ◌≡◌, ◌+◌, sym, arith, cases_lt, get_or_past, points_of}
use Rattle.buck_dp.proofs.GridLemmas.{begun, at_top}
use Rattle.buck_dp.proofs.planning.Search.search.Goals as goal

pub loop-top-init : goal.loop-top-init
loop-top-init g c =
    let grid = c.requires.0 in
    let n = c.points-points.result in
    let e : n ≡ points_of g.p = search rules in
    record {
      plan = record {
        grid = grid;
        cache = c.requires.1;
        search = at_top (sym e) (begun grid.valid grid.sound
            (grind (arith, common_steps, c.in_ok-resize.ensures))
            (grind (arith, common_steps, c.in_ok-resize-2.ensures))
            (λ k. grind (arith, common_steps, cases_lt k (n + 1), c.in_ok-resize.ensures.by_index))
            (λ k from. grind (arith, common_steps, cases_lt n k, get_or_past)));
      };
      some = omega (arith, e);
    }
