use Rattle.buck_fleet.proofs.Words.{IsSeatIn, HasCut, stems_of}
use Rattle.buck_fleet.proofs.run.cut_all.Given as goal

abbrev pub invariant-loop-stem : goal.invariant-loop-stem
invariant-loop-stem g l = IsSeatIn l.fleet l.seat × HasCut l.stem-index (stems_of l.stems) l.initial.seat l.seat
