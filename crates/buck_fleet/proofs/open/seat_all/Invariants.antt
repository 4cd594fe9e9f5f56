use Rattle.buck_fleet.proofs.Words.{◌≡◌, ◌≤◌, [], length, vec_capacity, All, lists_of}
use Rattle.buck_fleet.proofs.Opened.{AreSoFar}
use Rattle.buck_fleet.proofs.open.seat_all.Given as goal

abbrev pub invariant-loop-place : goal.invariant-loop-place
invariant-loop-place g l = record {
  seated : AreSoFar l.board l.count l.seats.items l.places.items l.parts l.share.parts;
  room : l.count ≤ vec_capacity l.seats;
  amount : l.share.amount ≡ 0;
  kept_number : length l.kept.items ≡ length l.seats.items;
  kept_room : l.count ≤ vec_capacity l.kept;
  empty : All (λ x. x ≡ []) (lists_of l.kept.items);
}

abbrev pub decreases-loop-place : goal.decreases-loop-place
decreases-loop-place g l = length l.places.items
