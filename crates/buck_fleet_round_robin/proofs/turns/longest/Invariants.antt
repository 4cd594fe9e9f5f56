use Rattle.std.proofs.Common.{ℕ, ◌≤◌, ◌<◌, length, get_or}
use Rattle.buck_fleet_round_robin.specs.Turn.{StemList}
use Rattle.buck_fleet_round_robin.proofs.turns.longest.Given as goal

abbrev pub invariant-loop-list : goal.invariant-loop-list
invariant-loop-list l = (k : ℕ) (d : StemList) → k < l.list-index → length (get_or l.lists k d).items ≤ l.most
