use Rattle.buck_dp.proofs.Words.{◌≤◌, drop, IsSearch, IsCacheOf, AreRanges}
use Rattle.buck_dp.proofs.planning.Search.settle_ranges.Given as goal

abbrev pub ghost-settle : goal.ghost-settle
ghost-settle g a = g.p

abbrev pub invariant-loop-top : goal.invariant-loop-top
invariant-loop-top g l = record {
  low : l.last ≤ l.top;
  high : l.top ≤ l.past;
  search : IsSearch g.p l.values l.choices l.top 0;
  cache : IsCacheOf g.p l.cache;
}

abbrev pub decreases-loop-top : goal.decreases-loop-top
decreases-loop-top g l = l.top

abbrev pub invariant-loop-range : goal.invariant-loop-range
invariant-loop-range g l = record {
  search : IsSearch g.p l.values l.choices l.top l.stop;
  cache : IsCacheOf g.p l.cache;
  left : AreRanges g.p l.top l.stop (drop l.range-index l.ranges);
}
