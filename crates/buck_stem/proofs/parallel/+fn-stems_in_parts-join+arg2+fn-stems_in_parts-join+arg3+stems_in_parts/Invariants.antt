use Rattle.std.proofs.Common.{◌+◌, ◌-◌, ◌*◌, ◌/◌}
use Rattle.buck_stem.proofs.parallel.+fn-stems_in_parts-join+arg2+fn-stems_in_parts-join+arg3+stems_in_parts.Given as goal

abbrev pub decreases-join+arg2 : goal.decreases-join+arg2
decreases-join+arg2 g l = 2 * (l.threads / 2) + 1

abbrev pub decreases-join+arg3 : goal.decreases-join+arg3
decreases-join+arg3 g l = 2 * (l.threads - l.threads / 2) + 1

abbrev pub decreases-stems_in_parts : goal.decreases-stems_in_parts
decreases-stems_in_parts g l = 2 * l.threads
