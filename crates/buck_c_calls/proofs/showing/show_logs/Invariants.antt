use Rattle.std.proofs.Common.{◌≡◌, length}
use Rattle.buck_c_calls.proofs.Cuttings.{AreShown}
use Rattle.buck_c_calls.proofs.showing.show_logs.Given as goal

abbrev pub invariant-loop-k : goal.invariant-loop-k
invariant-loop-k l = (length l.out ≡ 80) × AreShown l.sheet l.stem l.logs l.k l.out
