use Rattle.buck_fleet_round_robin.proofs.Rounds.{HasCutRounds, IsOpened}
use Rattle.buck_fleet_round_robin.proofs.turns.cut_in_turn.Given as goal

abbrev pub invariant-loop-round : goal.invariant-loop-round
invariant-loop-round g l = record {
  book : IsOpened g.F.Fn l.fn.rule l.fn.instruction.value l.cutter;
  cut : HasCutRounds l.round 0 l.lists l.cutter.history.postings;
}

abbrev pub invariant-loop-place : goal.invariant-loop-place
invariant-loop-place g l = record {
  book : IsOpened g.F.Fn l.fn.rule l.fn.instruction.value l.cutter;
  cut : HasCutRounds l.round l.place l.lists l.cutter.history.postings;
}
