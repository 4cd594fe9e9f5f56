use Rattle.buck_fleet.proofs.Replies.{AreAlike}
use Rattle.buck_fleet.proofs.close.first_difference.Given as goal

abbrev pub invariant-loop-i : goal.invariant-loop-i
invariant-loop-i l = AreAlike l.harvester l.kept l.entries l.k l.i
