use Rattle.buck_board.specs.Board.{IsSeatOf}
use Rattle.test_board.proofs.memory.shows_up_to.Given as goal

abbrev pub invariant-loop-version : goal.invariant-loop-version
invariant-loop-version l = record {
  one : IsSeatOf l.board l.one;
  two : IsSeatOf l.board l.two;
}
