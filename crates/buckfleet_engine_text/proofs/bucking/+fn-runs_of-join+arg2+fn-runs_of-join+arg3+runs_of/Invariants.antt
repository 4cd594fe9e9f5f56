use Rattle.std.proofs.Common.{◌+◌, ◌-◌, ◌*◌, ◌/◌}
use Rattle.buckfleet_engine_text.proofs.bucking.+fn-runs_of-join+arg2+fn-runs_of-join+arg3+runs_of.Given as goal

abbrev pub decreases-join+arg2 : goal.decreases-join+arg2
decreases-join+arg2 g l = 2 * (l.threads / 2) + 1

abbrev pub decreases-join+arg3 : goal.decreases-join+arg3
decreases-join+arg3 g l = 2 * (l.threads - l.threads / 2) + 1

abbrev pub decreases-runs_of : goal.decreases-runs_of
decreases-runs_of g l = 2 * l.threads
