use Rattle.std.proofs.Common.{◌≡◌, ◌≤◌, length}
use Rattle.buck_record.specs.bytes.White.{trim_start}
use Rattle.buck_record.proofs.bytes.white.past_fours.Given as goal

abbrev pub invariant-loop-rest : goal.invariant-loop-rest
invariant-loop-rest l = record {
  same : trim_start l.rest ≡ trim_start l.bytes;
  shorter : length l.rest ≤ length l.bytes;
}

abbrev pub decreases-loop-rest : goal.decreases-loop-rest
decreases-loop-rest l = length l.rest
