use Rattle.std.proofs.Common.{◌≡◌, ◌+◌, ◌∷◌, ◌++◌, ◌≤◌, length, take}
use Rattle.std.specs.Vec.{vec_len, vec_capacity}
use Rattle.buck_record.proofs.writing.line.put_after.Given as goal

-- the byte and the digits so far are put, and there is room for the others
abbrev pub invariant-loop-digit : goal.invariant-loop-digit
invariant-loop-digit l = record {
  put : l.out.items ≡ l.fn.out.items ++ (l.fn.byte ∷ take l.digit-index l.digit-items);
  room : vec_len l.out + length l.digit-items ≤ vec_capacity l.out + l.digit-index;
}
