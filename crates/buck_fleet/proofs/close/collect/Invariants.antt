use Rattle.buck_fleet.proofs.Words.{◌≡◌, length, lists_of}
use Rattle.buck_fleet.proofs.Places.{Places}
use Rattle.buck_fleet.proofs.close.collect.Given as goal

abbrev pub invariant-loop-seat : goal.invariant-loop-seat
invariant-loop-seat g l = record {
  taken : Places l.fn.seats.items l.seats.items (lists_of l.kept.items) l.all.parts l.all.amount;
  number : length l.kept.items ≡ length l.initial.kept.items;
}

abbrev pub decreases-loop-seat : goal.decreases-loop-seat
decreases-loop-seat g l = length l.seats.items
