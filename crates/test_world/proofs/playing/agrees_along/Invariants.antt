use Rattle.std.proofs.Common.{◌≡◌}
use Rattle.test_world.proofs.playing.agrees_along.Given as goal

abbrev pub invariant-loop-what : goal.invariant-loop-what
invariant-loop-what g l = record {
  rule : l.world.rule ≡ l.fn.world.rule;
}
