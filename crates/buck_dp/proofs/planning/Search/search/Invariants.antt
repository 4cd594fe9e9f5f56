use Rattle.buck_dp.proofs.Words.{◌<◌, IsPlan}
use Rattle.buck_dp.proofs.planning.Search.search.Given as goal

abbrev pub ghost-settle_run : goal.ghost-settle_run
ghost-settle_run g a = g.p

abbrev pub ghost-settle_ranges : goal.ghost-settle_ranges
ghost-settle_ranges g a = g.p

abbrev pub invariant-loop-top : goal.invariant-loop-top
invariant-loop-top g l = record { plan : IsPlan g.p l.grid l.self l.top; some : 0 < l.top }

abbrev pub decreases-loop-top : goal.decreases-loop-top
decreases-loop-top g l = l.top
