use Rattle.std.proofs.Common.{◌≡◌, ◌+◌, drop, sum}
use Rattle.buck_c_calls.proofs.several.are_lengths.Given as goal

abbrev pub invariant-loop-length : goal.invariant-loop-length
invariant-loop-length l = sum l.lengths + l.left ≡ l.size + sum (drop l.length-index l.lengths)
