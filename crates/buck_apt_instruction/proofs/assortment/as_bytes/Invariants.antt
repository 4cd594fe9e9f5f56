use Rattle.std.proofs.Common.{take, length, ◌≡◌, ◌≤◌}
use Rattle.std.specs.Vec.{vec_capacity}
use Rattle.buck_apt_instruction.proofs.assortment.as_bytes.Given as goal

abbrev pub invariant-loop-n : goal.invariant-loop-n
invariant-loop-n l = record {
  made : l.bytes.items ≡ take l.n-index l.numbers;
  room : length l.numbers ≤ vec_capacity l.bytes;
}
