use Rattle.buck_dp.proofs.Words.{◌-◌, length, List, ◌++◌, Log}
use Rattle.buck_dp.proofs.Values.{IsBestAt}
use Rattle.buck_dp.proofs.following.follow.Given as goal

abbrev pub ghost-log_at : goal.ghost-log_at
ghost-log_at g a = g.p

-- the logs so far, and behind them the best from the point on, are the best from the butt on
abbrev pub invariant-loop-i : goal.invariant-loop-i
invariant-loop-i g l = (gs : List Log) → IsBestAt g.p l.search.values.items l.i gs
    → IsBestAt g.p l.search.values.items 0 (l.logs.items ++ gs)

abbrev pub decreases-loop-i : goal.decreases-loop-i
decreases-loop-i g l = length l.choices - l.i
