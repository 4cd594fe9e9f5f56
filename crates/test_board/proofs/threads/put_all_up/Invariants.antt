use Rattle.buck_board.specs.Board.{IsSeatOf}
use Rattle.test_board.proofs.threads.put_all_up.Given as goal

abbrev pub invariant-loop-sheet : goal.invariant-loop-sheet
invariant-loop-sheet g l = IsSeatOf l.board l.seat
