use Rattle.buck_board.specs.Board.{IsSeatOf}
use Rattle.bench_calls.proofs.board.put_on.Given as goal

abbrev pub invariant-loop-version : goal.invariant-loop-version
invariant-loop-version g l = IsSeatOf l.board l.seat
