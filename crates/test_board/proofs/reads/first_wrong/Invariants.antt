use Rattle.std.proofs.Common.{◌≡◌}
use Rattle.buck_board.specs.Board.{IsSeatOf}
use Rattle.test_board.proofs.reads.first_wrong.Given as goal

abbrev pub invariant-loop-i : goal.invariant-loop-i
invariant-loop-i g l = record { one : IsSeatOf l.board l.one; two : IsSeatOf l.board l.two }
