use Rattle.std.proofs.Common.{◌≡◌}
use Rattle.buck_fleet.specs.Fleet.{IsSeatIn}
use Rattle.fixture_plays.proofs.play.play_one.Given as goal

abbrev pub invariant-loop-what : goal.invariant-loop-what
invariant-loop-what g l =
    IsSeatIn l.fleet l.seat × (l.seat.harvester ≡ l.initial.seat.harvester) × (l.seat.parts ≡ l.initial.seat.parts)
