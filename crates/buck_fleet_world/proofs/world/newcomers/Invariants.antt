use Rattle.buck_fleet_world.proofs.Words.{◌≡◌, replicate, newcomer}
use Rattle.buck_fleet_world.proofs.world.newcomers.Given as goal

abbrev pub invariant-loop : goal.invariant-loop
invariant-loop l = l.all.items ≡ replicate l.counter newcomer
