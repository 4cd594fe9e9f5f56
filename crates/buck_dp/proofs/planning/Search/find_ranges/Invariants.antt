use Rattle.buck_dp.proofs.Words.{ℕ, ◌-◌, IsMaskBetween, IsCacheOf, IsRangeTo}
use Rattle.buck_dp.proofs.GridLemmas.{AreFound}
use Rattle.buck_dp.proofs.planning.Search.find_ranges.Given as goal

abbrev pub ghost-run_before : goal.ghost-run_before
ghost-run_before g a = g.p

abbrev pub invariant-loop-range : goal.invariant-loop-range
invariant-loop-range g l = record {
  cache : IsCacheOf g.p l.cache;
  found : (stop : ℕ) × AreFound g.p l.first l.past stop l.ranges.items × IsRangeTo g.p (l.past - 1) stop l.range;
  mask : IsMaskBetween l.grid.profile.now l.range.first (l.past - 1) l.grades;
}

abbrev pub decreases-loop-range : goal.decreases-loop-range
decreases-loop-range g l = l.range.first
