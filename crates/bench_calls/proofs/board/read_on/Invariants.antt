use Rattle.buck_board.specs.Board.{IsSeatOf}
use Rattle.bench_calls.proofs.board.read_on.Given as goal

abbrev pub invariant-loop : goal.invariant-loop
invariant-loop l = IsSeatOf l.board l.seat
