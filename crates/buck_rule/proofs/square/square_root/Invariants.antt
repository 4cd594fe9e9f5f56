use Rattle.std.proofs.Common.{◌+◌, ◌*◌, ◌^◌, ◌<◌, ◌≤◌}
use Rattle.buck_rule.proofs.square.square_root.Given as goal

abbrev pub invariant-loop-root : goal.invariant-loop-root
invariant-loop-root l = (0 < l.root) × (l.root ≤ 2 ^ 77) × (l.square < (l.root + 1) * (l.root + 1))

abbrev pub decreases-loop-root : goal.decreases-loop-root
decreases-loop-root l = l.root
