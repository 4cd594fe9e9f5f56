use Rattle.std.proofs.Common.{◌≤◌, length}
use Rattle.buck_record.proofs.NumberLemmas.{IsRead}
use Rattle.buck_record.proofs.bytes.digits.cut_number.Given as goal

-- the bytes so far are zeros
abbrev pub invariant-loop-rest : goal.invariant-loop-rest
invariant-loop-rest l = IsRead l.text l.rest 0

abbrev pub decreases-loop-rest : goal.decreases-loop-rest
decreases-loop-rest l = length l.rest

-- the bytes so far are digits, and the value is theirs and within its limit
abbrev pub invariant-loop-rest-2 : goal.invariant-loop-rest-2
invariant-loop-rest-2 l = record {
  read : IsRead l.text l.rest l.value;
  small : l.value ≤ l.most;
}

abbrev pub decreases-loop-rest-2 : goal.decreases-loop-rest-2
decreases-loop-rest-2 l = length l.rest
