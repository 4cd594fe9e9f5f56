use Rattle.buck_dp.proofs.Words.{◌≡◌, ◌<◌, ◌≤◌, ◌-◌, slice_index, IsSearch, IsCacheOf}
use Rattle.buck_dp.proofs.planning.Search.settle_near.Given as goal

abbrev pub ghost-settle : goal.ghost-settle
ghost-settle g a = g.p

abbrev pub invariant-loop-top : goal.invariant-loop-top
invariant-loop-top g l = record {
  low : l.last ≤ l.top;
  high : l.top ≤ l.past;
  search : IsSearch g.p l.values l.choices l.top 0;
  cache : IsCacheOf g.p l.cache;
}

abbrev pub decreases-loop-top : goal.decreases-loop-top
decreases-loop-top g l = l.top

abbrev pub invariant-loop-top-2 : goal.invariant-loop-top-2
invariant-loop-top-2 g l = record {
  low : l.last < l.top;
  high : l.top ≤ l.initial.top;
  here : l.diameter ≡ slice_index l.diameters (l.top - 1);
  search : IsSearch g.p l.values l.choices l.top 0;
}

abbrev pub decreases-loop-top-2 : goal.decreases-loop-top-2
decreases-loop-top-2 g l = l.top
