use Rattle.std.proofs.Common.{◌≡◌, ◌<◌, length}
use Rattle.std.specs.Vec.{vec_len, vec_capacity}
use Rattle.buck_record.specs.bytes.Record.{numbers_of}
use Rattle.buck_record.specs.inner.Front.{adds_on, HasRoom}
use Rattle.buck_record.proofs.pass.kept_numbers.append_each.Given as goal

-- what was added, with what is left, gives the numbers, and there is room for what is left
abbrev pub invariant-loop-rest : goal.invariant-loop-rest
invariant-loop-rest l = record {
  adding : adds_on l.out.items l.rest ≡ numbers_of l.fn.text;
  room : 0 < length l.rest → HasRoom (vec_len l.out) (vec_capacity l.out) (length l.rest);
}

abbrev pub decreases-loop-rest : goal.decreases-loop-rest
decreases-loop-rest l = length l.rest
