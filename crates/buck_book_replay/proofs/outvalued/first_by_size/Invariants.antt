use Rattle.buck_book_replay.proofs.Words.{◌+◌, ◌*◌, NoneDoubtful}
use Rattle.buck_book_replay.proofs.outvalued.first_by_size.Given as goal

abbrev pub invariant-loop-k : goal.invariant-loop-k
invariant-loop-k g l = NoneDoubtful l.case l.fn.from (l.fn.from + l.k * l.size)
