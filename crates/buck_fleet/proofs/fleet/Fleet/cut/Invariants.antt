use Rattle.buck_fleet.proofs.Words.{◌≡◌, ◌≤◌, ◌+◌, KeepsNothing, seen_of, IsSeatIn}
use Rattle.buck_fleet.proofs.fleet.Fleet.cut.Given as goal

abbrev pub invariant-loop-attempt : goal.invariant-loop-attempt
invariant-loop-attempt g l = record {
  of : IsSeatIn l.self l.seat;
  kept : KeepsNothing l.initial.seat l.seat;
  counted : l.attempts + 1 ≡ l.attempt;
  newer : 1 ≤ l.attempts → seen_of l.initial.seat + l.attempts ≤ l.before + 1;
  shown : 1 ≤ l.attempts → l.before ≤ seen_of l.seat;
}
