use Rattle.std.proofs.Common.{◌≡◌, ◌≤◌, ◌*◌, ◌^◌, length, sum_by, take}
use Rattle.buckfleet_trial.proofs.reading.check_room.Given as goal

abbrev pub invariant-loop-list : goal.invariant-loop-list
invariant-loop-list l = record {
  sum : l.stems ≡ sum_by (λ list. length list.items) (take l.list-index l.lists);
  low : l.stems ≤ l.list-index * 2 ^ 64;
}
