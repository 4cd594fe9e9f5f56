use Rattle.buck_book_replay.proofs.Words.{◌≡◌, sheet_at, NoneDoubtful}
use Rattle.buck_book_replay.proofs.outvalued.first_doubtful.Given as goal

abbrev pub invariant-loop-at : goal.invariant-loop-at
invariant-loop-at l = record {
  none : NoneDoubtful l.case l.from l.at;
  sheet : l.planner ≡ sheet_at l.case.instruction l.case.sheets l.planner.version;
}
