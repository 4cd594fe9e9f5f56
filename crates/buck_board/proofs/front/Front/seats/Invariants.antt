use Rattle.std.proofs.Common.{◌≡◌, ◌+◌, All, vec_len}
use Rattle.buck_board.specs.Board.{IsSeatAt}
use Rattle.buck_board.proofs.front.Front.seats.Given as goal

abbrev pub invariant-loop : goal.invariant-loop
invariant-loop l = record {
  number : vec_len l.all + 1 ≡ l.counter;
  place : IsSeatAt l.self l.first;
  seen : l.first.seen ≡ 0;
  places : All (IsSeatAt l.self) l.all.items;
  none_seen : All (λ s. s.seen ≡ 0) l.all.items;
}
